-- What the customer holds the two calls to. The statements about calls are over bytes, budgets and lent buffers, whatever they are; the others are about the definitions that these use.
use Rattle.std.specs.Prelude.{◌≡◌, ◌↔◌, ◌⊎◌, true, List, [], ◌∷◌, ◌++◌, ℕ, suc, ◌+◌, ◌*◌, ◌/◌, ◌%◌, ◌^◌, ◌≤◌, ◌<◌, length, get_or, take, drop, ℤ, pos}
use Rattle.std.proofs.Math.Option.{Option, none, some}
use Rattle.calculus.specs.Limits.{most_bytes, most_steps}
use Rattle.calculus.specs.Lists.{Each, Some, picked, bit}
use Rattle.calculus.specs.Terms.{Term, SetVar, term, set_var}
use Rattle.calculus.specs.Meaning.{member, ◌∈◌, Valuation, Holds}
use Rattle.calculus.specs.Problem.{Problem, constant_count, term_count, set_count, constant_terms, Assignment, values, Satisfies}
use Rattle.calculus.specs.Encoding.{Bytes, Written, Handed, encode_handed, WrittenAssignment}
use Rattle.calculus.specs.Reading.{parsed, refused, read}
use Rattle.calculus.specs.Questions.{FirstNoOfRun, FirstNoOfCheck, Questions}
use Rattle.calculus.specs.Branch.{Branch, start, root_at, Fact, known, assert, assert_all}
use Rattle.calculus.specs.Search.{distinct, solved, step}
use Rattle.calculus.specs.Forms.{record_of, listed_forms, Agrees, SatisfiesForm, model_number, model, handed_model, record_length, root_in, inside_in, outside_in}
use Rattle.calculus.specs.Run.{next_of}
use Rattle.calculus.specs.Check.{read_assignment, assignment_of}
use Rattle.calculus.specs.Calls.{Verdict, FORMS, FALSE, SPENT, NOROOM, refusal, ended, asked, call, answer_number, answer_word, declined, HOLDS, FAILS, check, checked_number, check_word}
use Rattle.calculus.specs.Order.{KnownIn, KnownOut, OneClass, Then, Conflicts, Ranged, Reached, TrueOf, Recorded, Once, Place, Before, AssertsAll, Leaves, Enabled, Solved, StepOf, PathTo, Progress, unbegun, Works}

-- ---- demand 1

-- A problem is accepted exactly where it is written as document 01 says, and is then what is written.
abbrev pub Reads : Type 0
Reads = (bytes : List ℕ) → Bytes bytes → (prob : Problem) → (read bytes ≡ parsed prob) ↔ Written bytes prob

-- A problem is refused with the number of the first question that is answered "no" (specs/Questions tells the questions without the reader). Some of that in few words: 1 is for more than 4,096 bytes, 2 for bytes that are missing, 10 for bytes left over, and there is no number but document 01's.
abbrev pub Refuses : Type 0
Refuses = (bytes : List ℕ) →
    ((read bytes ≡ refused 1) ↔ (most_bytes < length bytes))
    × ((n : ℕ) → read bytes ≡ refused n → (1 ≤ n) × (n ≤ 11))
    × ((prob : Problem) → Bytes bytes → Written bytes prob →
    ((k : ℕ) → k < length bytes → read (take k bytes) ≡ refused 2)
    × ((x : ℕ) (more : List ℕ) → length (bytes ++ (x ∷ more)) ≤ most_bytes → read (bytes ++ (x ∷ more)) ≡ refused 10))

-- A call is refused with the number of the first of its questions that is answered "no"; a run that is not refused is of the problem that is written.
abbrev pub Refusals : Type 0
Refusals = (bytes : List ℕ) → Bytes bytes →
    ((budget room n : ℕ) → (asked bytes budget room ≡ refused n) ↔ FirstNoOfRun bytes budget room n)
    × ((budget room : ℕ) (prob : Problem) → (asked bytes budget room ≡ parsed prob) ↔ (Written bytes prob × (budget ≤ most_steps) × (4 * budget ≤ room)))
    × ((assignment : List ℕ) → Bytes assignment → (n : ℕ) → (check bytes assignment ≡ declined n) ↔ FirstNoOfCheck bytes assignment n)

-- A refusal writes nothing; otherwise what is written stays inside, and later bytes stay as they were.
abbrev pub Kept : Type 0
Kept = (bytes : List ℕ) (budget : ℕ) (forms trace : List ℕ) →
    ((n : ℕ) → asked bytes budget (length trace) ≡ refused n → call bytes budget forms trace ≡ record { answer = refusal n; forms = forms; trace = trace })
    × ((prob : Problem) → asked bytes budget (length trace) ≡ parsed prob → (v : Verdict) × (n c : ℕ) × ((call bytes budget forms trace).answer ≡ ended v n c)
    × (n ≤ budget) × (c * record_length (term_count prob) ≤ length forms)
    × (length (call bytes budget forms trace).forms ≡ length forms) × (drop (c * record_length (term_count prob)) (call bytes budget forms trace).forms ≡ drop (c * record_length (term_count prob)) forms)
    × (length (call bytes budget forms trace).trace ≡ length trace) × (drop (4 * n) (call bytes budget forms trace).trace ≡ drop (4 * n) trace))

-- What is left in both buffers is bytes.
abbrev pub Bytewise : Type 0
Bytewise = (bytes : List ℕ) (budget : ℕ) (forms trace : List ℕ) → Bytes forms → Bytes trace → Bytes (call bytes budget forms trace).forms × Bytes (call bytes budget forms trace).trace

-- The answer word has 64 bits, and each of its parts can be read back.
pub record Unpacks (word verdict number steps forms : ℕ) : Type 0 where
  pub small : word < 2 ^ 64
  pub verdict_is : word % 256 ≡ verdict
  pub number_is : word / 256 % 256 ≡ number
  pub steps_are : word / 65536 % 65536 ≡ steps
  pub forms_are : word / 4294967296 ≡ forms

abbrev pub Answers : Type 0
Answers = (bytes : List ℕ) →
    ((budget : ℕ) (forms trace : List ℕ) →
    ((n : ℕ) → (call bytes budget forms trace).answer ≡ refusal n → Unpacks (answer_word (call bytes budget forms trace).answer) (answer_number (refusal n)) n 0 0)
    × ((v : Verdict) (n c : ℕ) → (call bytes budget forms trace).answer ≡ ended v n c → Unpacks (answer_word (call bytes budget forms trace).answer) (answer_number (ended v n c)) 0 n c))
    × ((assignment : List ℕ) →
    ((n : ℕ) → check bytes assignment ≡ declined n → Unpacks (check_word (check bytes assignment)) (checked_number (declined n)) n 0 0)
    × (check bytes assignment ≡ HOLDS → Unpacks (check_word (check bytes assignment)) (checked_number HOLDS) 0 0 0)
    × ((i : ℕ) → check bytes assignment ≡ FAILS i → Unpacks (check_word (check bytes assignment)) (checked_number (FAILS i)) i 0 0))

-- ---- demand 2

-- The steps, trace and forms of a call, its end and its paths are those of document 01's order of work.
abbrev pub Follows : Type 0
Follows = (bytes : List ℕ) (budget : ℕ) (forms trace : List ℕ) (prob : Problem) → asked bytes budget (length trace) ≡ parsed prob →
    (v : Verdict) (n c : ℕ) → (call bytes budget forms trace).answer ≡ ended v n c →
    (records steps ps : List ℕ)
    × Works prob budget (length forms) ((0, start (term_count prob)) ∷ []) unbegun v (record { steps = n; forms = c; records = records; trace = steps }) ps
    × (records ≡ take (c * record_length (term_count prob)) (call bytes budget forms trace).forms)
    × (steps ≡ take (4 * n) (call bytes budget forms trace).trace)
    × Each (λ d. d ≤ term_count prob * suc (set_count prob)) ps

-- And that order of work leaves no choice.
abbrev pub OneWay : Type 0
OneWay = (prob : Problem) (budget room : ℕ) (left : List (ℕ × Branch)) → (s : Progress) (v w : Verdict) (e f : Progress) (ps qs : List ℕ) →
    Works prob budget room left s v e ps → Works prob budget room left s w f qs → (v ≡ w) × (e ≡ f) × (ps ≡ qs)

-- Of two places where rules apply one is before the other, or they are one place: "the first" leaves no choice.
abbrev pub Ordered : Type 0
Ordered = (prob : Problem) (b : Branch) (p q : Place) → Enabled prob b p → Enabled prob b q → Before p q ⊎ (Before q p ⊎ (p ≡ q))

-- The search of Search.antt finds what the order of work asks for: a solved form, or the step of the first place.
abbrev pub FirstPlace : Type 0
FirstPlace = (prob : Problem) (b : Branch) → (next_of prob b ≡ solved ↔ Solved prob b) × ((r : List ℕ) (cs : List Branch) → next_of prob b ≡ step r cs ↔ StepOf prob b r cs)

-- The children that Search.antt computes are those that a step leaves: asserting all facts, dropping what conflicts, and rule 20's classes once each, in the order of their first entries.
abbrev pub Children : Type 0
Children = ((constants : List Term) (b : Branch) →
    ((fs : List Fact) (o : Option Branch) → AssertsAll constants b fs o ↔ (assert_all constants b fs ≡ o))
    × ((gs : List (List Fact)) (cs : List Branch) → Leaves constants b gs cs ↔ (picked (assert_all constants b) gs ≡ cs)))
    × ((es ds : List Term) → Once [] es ds ↔ (distinct es ≡ ds))

-- A form's record is the one that shows each term's root and exactly what is known of its class.
abbrev pub Records : Type 0
Records = (n : ℕ) (b : Branch) (r : List ℕ) → Recorded n b r ↔ (record_of n b ≡ r)

-- And it states exactly that: a valuation agrees with it exactly where every fact that the branch knows is true of it.
abbrev pub States : Type 0
States = (n : ℕ) (constants : List Term) (m : ℕ) (b : Branch) → Reached n constants m b → (v : Valuation) →
    Agrees n v (record_of n b) ↔ ((k : ℕ) (f : Fact) → Ranged n k f → known b f ≡ true → TrueOf v f)

-- At the start each term is its own class and nothing is known, and asserting leads from there to the end of every path. (Every branch of a run is at the end of one: Works.)
abbrev pub Reaches : Type 0
Reaches = ((n : ℕ) (t u : Term) (A : SetVar) → ¬ KnownIn (start n) t A × ¬ KnownOut (start n) t A × (OneClass (start n) t u → t ≡ u))
    × ((bytes : List ℕ) (prob : Problem) → read bytes ≡ parsed prob → (d : ℕ) (b : Branch) → PathTo prob d b → Reached (term_count prob) (constant_terms prob) (set_count prob) b)

-- Asserting a fact, merging among them, gives the branch with that fact and what it unites, or says that it conflicts; a root is the lowest of its class.
abbrev pub Asserts : Type 0
Asserts = (n : ℕ) (constants : List Term) (m : ℕ) → (b : Branch) → Reached n constants m b →
    ((t : ℕ) → t < n → (root_at b (root_at b t) ≡ root_at b t) × ((u : ℕ) → OneClass b (term t) (term u) → root_at b t ≤ u))
    × ((f : Fact) → Ranged n m f →
    (assert constants b f ≡ none ↔ Conflicts b n constants f)
    × ((c : Branch) → assert constants b f ≡ some c → (g : Fact) → Ranged n m g → (known c g ≡ true) ↔ Then b f g))

-- A listed record's shape: roots are lowest and their own roots, no two constants share one, every term shows its root's masks, masks are of the problem's sets, and nothing is both in and out.
pub record Shape (prob : Problem) (r : List ℕ) : Type 0 where
  pub long : length r ≡ record_length (term_count prob)
  pub lowest : (t u : ℕ) → t < term_count prob → u < term_count prob → root_in r t ≡ root_in r u → root_in r t ≤ u
  pub own : (t : ℕ) → t < term_count prob → root_in r (root_in r t) ≡ root_in r t
  pub constants : (i j : ℕ) → i < constant_count prob → j < constant_count prob → root_in r i ≡ root_in r j → i ≡ j
  pub shows : (t : ℕ) → t < term_count prob → (inside_in r t ≡ inside_in r (root_in r t)) × (outside_in r t ≡ outside_in r (root_in r t))
  pub masks : (t : ℕ) → t < term_count prob → (inside_in r t < 2 ^ set_count prob) × (outside_in r t < 2 ^ set_count prob)
  pub clear : (t A : ℕ) → t < term_count prob → bit (inside_in r t) A ≡ true → bit (outside_in r t) A ≡ true → ⊥

-- A listed record's model: a class with a constant has that value, any other 32,001 + its root, so at most 32,064; a set holds the values of the classes known to be in it.
pub record Valued (prob : Problem) (r : List ℕ) : Type 0 where
  pub constant : (t i : ℕ) → t < term_count prob → i < constant_count prob → root_in r i ≡ root_in r t → model_number prob r (term t) ≡ get_or prob.constants i (pos 0)
  pub free : (t : ℕ) → t < term_count prob → ((i : ℕ) → i < constant_count prob → ¬ (root_in r i ≡ root_in r t)) → model_number prob r (term t) ≡ pos (32001 + root_in r t)
  pub most : (t : ℕ) → t < term_count prob → 32001 + root_in r t ≤ 32064
  pub numbers : (i : ℕ) → (model prob r).number i ≡ model_number prob r (term (constant_count prob + i))
  pub members : (A : SetVar) (x : ℤ) → x ∈ (model prob r).members A ↔ ((t : ℕ) × (t < term_count prob) × (bit (inside_in r t) A.index ≡ true) × (x ≡ model_number prob r (term t)))

-- Every listed form's model satisfies every constraint and, with the witnesses' values, the form; in any run, however it ended.
abbrev pub Models : Type 0
Models = (bytes : List ℕ) (budget : ℕ) (forms trace : List ℕ) (prob : Problem) → read bytes ≡ parsed prob →
    (v : Verdict) (n c : ℕ) → (call bytes budget forms trace).answer ≡ ended v n c →
    Each (λ r. Satisfies prob (model prob r) × Agrees (term_count prob) (values prob (model prob r) (model_number prob r)) r × Shape prob r × Valued prob r) (listed_forms (term_count prob) c (call bytes budget forms trace).forms)

-- FALSE is said only if no assignment satisfies the problem, FORMS only if a form is listed.
abbrev pub Verdicts : Type 0
Verdicts = (bytes : List ℕ) (budget : ℕ) (forms trace : List ℕ) (prob : Problem) → read bytes ≡ parsed prob → (n c : ℕ) →
    ((call bytes budget forms trace).answer ≡ ended FALSE n c → (c ≡ 0) × ((g : Assignment) → ¬ Satisfies prob g))
    × ((call bytes budget forms trace).answer ≡ ended FORMS n c → (0 < c) × ((g : Assignment) × Satisfies prob g))

-- SPENT comes only with the whole budget used, NO ROOM only where one more record does not fit.
abbrev pub Stops : Type 0
Stops = (bytes : List ℕ) (budget : ℕ) (forms trace : List ℕ) (prob : Problem) → read bytes ≡ parsed prob → (n c : ℕ) →
    ((call bytes budget forms trace).answer ≡ ended SPENT n c → n ≡ budget)
    × ((call bytes budget forms trace).answer ≡ ended NOROOM n c → length forms < suc c * record_length (term_count prob))

-- ---- demand 3

-- The problem, as read from its bytes, and the records at the form buffer's start, as many as the answer counts, share exactly the same solutions.
abbrev pub SameSolutions : Type 0
SameSolutions = (bytes : List ℕ) (budget : ℕ) (forms trace : List ℕ) (prob : Problem) → read bytes ≡ parsed prob →
    (v : Verdict) (n c : ℕ) → (call bytes budget forms trace).answer ≡ ended v n c → (v ≡ FORMS) ⊎ (v ≡ FALSE) →
    (g : Assignment) → Satisfies prob g ↔ Some (SatisfiesForm prob g) (listed_forms (term_count prob) c (call bytes budget forms trace).forms)

-- No path is longer than terms × (sets + 1), a step that closes its end included. (Of a call's own paths: the last part of Follows.)
abbrev pub ShortPaths : Type 0
ShortPaths = (bytes : List ℕ) (prob : Problem) → read bytes ≡ parsed prob → (d : ℕ) (b : Branch) → PathTo prob d b →
    (d ≤ term_count prob * suc (set_count prob)) × ((r : List ℕ) (cs : List Branch) → StepOf prob b r cs → suc d ≤ term_count prob * suc (set_count prob))

-- ---- the assignment check

-- An assignment is read exactly where it is written as document 01 says, and is then what is written; the only refusal is 14.
abbrev pub ReadsAssignment : Type 0
ReadsAssignment = (prob : Problem) (bs : List ℕ) → Bytes bs →
    ((g : Handed) → (read_assignment prob bs ≡ parsed g) ↔ WrittenAssignment prob bs g)
    × ((n : ℕ) → read_assignment prob bs ≡ refused n → n ≡ 14)

-- HOLDS exactly where the assignment satisfies the problem; otherwise the lowest constraint that fails.
abbrev pub Checks : Type 0
Checks = (bytes : List ℕ) (assignment : List ℕ) →
    ((n : ℕ) → read bytes ≡ refused n → check bytes assignment ≡ declined n)
    × ((prob : Problem) → read bytes ≡ parsed prob →
    ((n : ℕ) → read_assignment prob assignment ≡ refused n → check bytes assignment ≡ declined n)
    × ((g : Handed) → read_assignment prob assignment ≡ parsed g →
    ((check bytes assignment ≡ HOLDS) ↔ Satisfies prob (assignment_of g))
    × ((i : ℕ) → (check bytes assignment ≡ FAILS i)
    ↔ ((i < length prob.constraints) × ¬ Holds (values prob (assignment_of g) (λ _. pos 0)) (get_or prob.constraints i (member (term 0) (set_var 0)))
    × ((j : ℕ) → j < i → Holds (values prob (assignment_of g) (λ _. pos 0)) (get_or prob.constraints j (member (term 0) (set_var 0))))))))

-- Every listed form's model, written as bytes, is an assignment that the check answers HOLDS for.
abbrev pub ModelsPass : Type 0
ModelsPass = (bytes : List ℕ) (budget : ℕ) (forms trace : List ℕ) (prob : Problem) → read bytes ≡ parsed prob →
    (v : Verdict) (n c : ℕ) → (call bytes budget forms trace).answer ≡ ended v n c →
    Each (λ r. let g : Handed = handed_model prob r in Bytes (encode_handed g) × WrittenAssignment prob (encode_handed g) g × (check bytes (encode_handed g) ≡ HOLDS)) (listed_forms (term_count prob) c (call bytes budget forms trace).forms)

-- ---- all of it
pub record Demands : Type 0 where
  pub reads : Reads
  pub questions : Questions
  pub refuses : Refuses
  pub refusals : Refusals
  pub kept : Kept
  pub bytewise : Bytewise
  pub answers : Answers
  pub follows : Follows
  pub one_way : OneWay
  pub ordered : Ordered
  pub first_place : FirstPlace
  pub children : Children
  pub records : Records
  pub states : States
  pub reaches : Reaches
  pub asserts : Asserts
  pub models : Models
  pub verdicts : Verdicts
  pub stops : Stops
  pub same_solutions : SameSolutions
  pub short_paths : ShortPaths
  pub reads_assignment : ReadsAssignment
  pub checks : Checks
  pub models_pass : ModelsPass
