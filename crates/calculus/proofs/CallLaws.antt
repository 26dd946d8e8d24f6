-- The demands that follow from the run's laws.
use mathlib.Core.Path.{◌≡◌, refl, sym, ◌∙◌, ap, subst}
use mathlib.Core.Logic.{◌↔◌, ◌⊎◌, inl, inr}
use mathlib.Core.Bool.{Bool, true, false, false≢true}
use mathlib.Core.List.{List, [], ◌∷◌, ◌++◌}
use Prim.Native.Nat.{ℕ, zero, suc, ◌*◌, ◌<◌, ◌≤◌, zero-le}
use native.Mathlib.Omega.{arith}
use native.Mathlib.Nat.{suc-mul, zero-mul}
use lib.ListN.{length, length-append, take, drop, length-drop}
use lib.Seq.{take_at, drop_at, take-append-le, drop-append-le}
use lib.Dec.{leb}
use lib.IntN.{ℤ}
use borrow.Author.Tests.{leb-true, le-leb, lt-leb}
use Rattle.calculus.specs.Limits.{most_steps}
use Rattle.calculus.specs.Terms.{Term}
use Rattle.calculus.specs.Lists.{Each, Some, first}
use Rattle.calculus.specs.Relations.{applies}
use mathlib.Core.Option.{Option, none, some}
use Rattle.calculus.specs.Meaning.{Constraint}
use Rattle.calculus.specs.Branch.{Branch, start, known}
use Rattle.calculus.specs.Search as Ru
use Rattle.calculus.specs.Search.{Candidate, Next, solved, step, children, next, places}
use Rattle.calculus.specs.Problem.{set_count, Problem, term_count, constant_terms, Assignment, values, Satisfies, Valid}
use Rattle.calculus.specs.Run.{Event, formed, stepped, log, Tally, stop, list_form, take_step, tally, run}
use Rattle.calculus.specs.Forms.{record_of, record_length, listed_forms, Agrees, SatisfiesForm}
use Rattle.calculus.specs.Run as R
use Rattle.calculus.specs.Reading.{parsed, refused, ◌>>=◌, ask, read}
use Rattle.calculus.specs.Calls.{Verdict, FORMS, FALSE, SPENT, NOROOM, refusal, ended, verdict_of, over, asked, call}
use Rattle.calculus.specs.Demands.{Follows, SameSolutions, Stops, Kept}
use Rattle.calculus.proofs.Bools.{each_is_all}
use Rattle.calculus.proofs.Solutions.{some_any, some_imp, any_witness}
use Rattle.calculus.proofs.RecordFields.{record_is_long}
use Rattle.calculus.proofs.Tallying.{tally_by}
use Rattle.calculus.proofs.Records.{run_solutions}
use Rattle.calculus.proofs.Parsing.{bind_parsed, ask_parsed}
use Rattle.calculus.proofs.LogEvents.{log_each}
use Rattle.calculus.proofs.ReadValid.{read_valid}
use Rattle.calculus.proofs.WorkOrder.{run_goes}

-- ---- lengths

module _ (n : ℕ) where
  pub records_long : (es : List Event) (l q : ℕ) → length (tally n l q es).records ≡ (tally n l q es).forms * record_length n
  records_long =
      tally_by n (λ l q es t. length t.records ≡ t.forms * record_length n) (λ _ _. sym (zero-mul (record_length n)))
      (λ b es l q t _ ih. omega (arith, length-append (record_of n b) t.records, record_is_long b n, ih, suc-mul t.forms (record_length n)))
      (λ _ _ _ _ _. sym (zero-mul (record_length n))) (λ _ _ _. sym (zero-mul (record_length n))) (λ _ _ _ _ _ ih. ih)

  pub records_fit : (es : List Event) (l q : ℕ) → length (tally n l q es).records ≤ q
  records_fit =
      tally_by n (λ l q es t. length t.records ≤ q) (λ _ _. zero-le) (λ b es l q t f ih. omega (arith, length-append (record_of n b) t.records, ih, f))
      (λ _ _ _ _ _. zero-le) (λ _ _ _. zero-le) (λ _ _ _ _ _ ih. ih)

  pub steps_fit : (es : List Event) (l q : ℕ) → (tally n l q es).steps ≤ l
  steps_fit = tally_by n (λ l q es t. t.steps ≤ l) (λ _ _. zero-le) (λ _ _ _ _ _ _ ih. ih) (λ _ _ _ _ _. zero-le) (λ _ _ _. zero-le) (λ _ _ _ _ _ ih. omega (arith, ih))

  -- SPENT, NO ROOM
  pub spent_all : (es : List Event) (l q : ℕ) → (tally n l q es).end ≡ R.SPENT → (tally n l q es).steps ≡ l
  spent_all =
      tally_by n (λ l q es t. t.end ≡ R.SPENT → t.steps ≡ l) (λ _ _ e. let w : false ≡ true = cc in absurd (false≢true w)) (λ _ _ _ _ _ _ ih. ih) (λ _ _ _ _ _ e. let w : false ≡ true = cc in absurd (false≢true w)) (λ _ _ _ _. refl) (λ _ _ _ _ _ ih e. ap suc (ih e))

  pub room_full : (es : List Event) (l q : ℕ) → (tally n l q es).end ≡ R.NOROOM → q < suc (tally n l q es).forms * record_length n
  room_full =
      tally_by n (λ l q es t. t.end ≡ R.NOROOM → q < suc t.forms * record_length n) (λ _ _ e. let w : false ≡ true = cc in absurd (false≢true w))
      (λ b es l q t f ih e. omega (arith, ih e, record_is_long b n, f, suc-mul (suc t.forms) (record_length n)))
      (λ b es l q f e. omega (arith, record_is_long b n, f)) (λ _ _ _ e. let w : false ≡ true = cc in absurd (false≢true w)) (λ _ _ _ _ _ ih. ih)

-- every step's record has four bytes
abbrev Four : Event → Type 0
Four (formed b) = Unit {0}
Four (stepped r) = length r ≡ 4

module _ (n : ℕ) (k : List Term) where
  trace_long : (es : List Event) → Each Four es → (l q : ℕ) → length (tally n l q es).trace ≡ 4 * (tally n l q es).steps
  trace_long es f l q =
      tally_by n (λ l q es t. Each Four es → length t.trace ≡ 4 * t.steps) (λ _ _ _. refl) (λ _ _ _ _ _ _ ih f. ih f.1) (λ _ _ _ _ _ _. refl) (λ _ _ _ _. refl)
      (λ r es l q t ih f. omega (arith, length-append r t.trace, f.0, ih f.1)) es l q f

  module _ (ls : List Constraint) where
    next_four : (b : Branch) (o : Option Candidate) (r : List ℕ) (cs : List Branch) → Ru.taken k b o ≡ step r cs → length r ≡ 4
    next_four b none r cs e = let w : false ≡ true = cc in absurd (false≢true w)
    next_four b (some p) r cs e = let z : (p.move.rule ∷ p.constraint ∷ p.concerned.index ∷ length (children k b p.move) ∷ []) ≡ r = cc in ap (length {A = ℕ}) (sym z)

    log_four : (fuel : ℕ) (b : Branch) → Each Four (log n k ls fuel b)
    unfolding next
    log_four fuel b = log_each n k ls (λ _. Unit {0}) Four (λ _ _. tt) (λ b _ r cs q. (next_four b (first (λ (p : Candidate). applies (known b) p.move) (places n ls b)) r cs q, each_is_all (λ _. Unit {0}) (λ _. tt) cs)) fuel b tt

-- ---- the buffers

pub listed_app : (n c : ℕ) (xs ys : List ℕ) → length xs ≡ c * record_length n → listed_forms n c (xs ++ ys) ≡ listed_forms n c xs
listed_app n zero xs ys e = refl
listed_app n (suc c) xs ys e =
    let size : ℕ = record_length n in
    let l : size ≤ length xs = omega (arith, e, suc-mul c size) in
    let d : length (drop size xs) ≡ c * size = omega (arith, length-drop size xs, e, suc-mul c size) in
    rw (take-append-le size xs ys l, drop-append-le size xs ys l, listed_app n c (drop size xs) ys d)

-- ---- what a call is

pub asked_one : (bytes : List ℕ) (budget room : ℕ) (prob : Problem) → read bytes ≡ parsed prob → (asked bytes budget room ≡ parsed prob) ⊎ ((n : ℕ) × (asked bytes budget room ≡ refused n))
unfolding asked ◌>>=◌ ask
asked_one bytes budget room prob e = go (leb budget most_steps) (leb (4 * budget) room) refl refl
  where
    go : (a b : Bool) → leb budget most_steps ≡ a → leb (4 * budget) room ≡ b → (asked bytes budget room ≡ parsed prob) ⊎ ((n : ℕ) × (asked bytes budget room ≡ refused n))
    go true true p q = inl (rw (e, p, q))
    go true false p q = inr (13, rw (e, p, q))
    go false b p q = inr (12, rw (e, p))

-- what a call that is not refused was asked
pub asked_parsed : (bytes : List ℕ) (budget room : ℕ) (prob : Problem) → asked bytes budget room ≡ parsed prob → (read bytes ≡ parsed prob) × (budget ≤ most_steps) × (4 * budget ≤ room)
unfolding asked
asked_parsed bytes budget room prob e =
    let a = bind_parsed _ _ prob e in
    let b = ask_parsed 12 _ _ prob a.2 in
    let c = ask_parsed 13 _ _ prob b.1 in
    let z : a.0 ≡ prob = cc c.1 in
    (a.1 ∙ ap parsed z, leb-true budget most_steps b.0, leb-true (4 * budget) room c.0)

pub record Was (bytes : List ℕ) (budget : ℕ) (forms trace : List ℕ) (prob : Problem) (v : Verdict) (n c : ℕ) : Type 0 where
  pub forms_are : (call bytes budget forms trace).forms ≡ over (run prob budget (length forms)).records forms
  pub trace_is : (call bytes budget forms trace).trace ≡ over (run prob budget (length forms)).trace trace
  pub verdict_is : verdict_of (run prob budget (length forms)).end (run prob budget (length forms)).forms ≡ v
  pub steps_are : (run prob budget (length forms)).steps ≡ n
  pub count_is : (run prob budget (length forms)).forms ≡ c

pub was : (bytes : List ℕ) (budget : ℕ) (forms trace : List ℕ) (prob : Problem) → read bytes ≡ parsed prob → (v : Verdict) (n c : ℕ) → (call bytes budget forms trace).answer ≡ ended v n c → Was bytes budget forms trace prob v n c
unfolding call
was bytes budget forms trace prob e v n c a = go (asked_one bytes budget (length trace) prob e)
  where
    go : (asked bytes budget (length trace) ≡ parsed prob) ⊎ ((m : ℕ) × (asked bytes budget (length trace) ≡ refused m)) → Was bytes budget forms trace prob v n c
    go (inl q) =
        let z : ended (verdict_of (run prob budget (length forms)).end (run prob budget (length forms)).forms) (run prob budget (length forms)).steps (run prob budget (length forms)).forms ≡ ended v n c = rw (q, call) at a in
        record { forms_are = rw (q, call); trace_is = rw (q, call); verdict_is = cc; steps_are = cc; count_is = cc }
    go (inr (m, q)) = let z : refusal m ≡ ended v n c = rw (q, call) at a in let w : false ≡ true = cc in absurd (false≢true w)

finished : (e : R.End) (c : ℕ) (v : Verdict) → verdict_of e c ≡ v → (v ≡ FORMS) ⊎ (v ≡ FALSE) → e ≡ R.DONE
finished R.DONE c v p q = refl
finished R.SPENT c v p (inl q) = let w : false ≡ true = cc in absurd (false≢true w)
finished R.SPENT c v p (inr q) = let w : false ≡ true = cc in absurd (false≢true w)
finished R.NOROOM c v p (inl q) = let w : false ≡ true = cc in absurd (false≢true w)
finished R.NOROOM c v p (inr q) = let w : false ≡ true = cc in absurd (false≢true w)

pub same_solutions : SameSolutions
unfolding run
same_solutions bytes budget forms trace prob e v n c a f g =
    let w = was bytes budget forms trace prob e v n c a in
    let acc = read_valid bytes prob e in
    let s : Tally = run prob budget (length forms) in
    let d = finished s.end s.forms v w.verdict_is f in
    let L : List Event = log (term_count prob) (constant_terms prob) prob.constraints (term_count prob * suc (set_count prob)) (start (term_count prob)) in
    let z : listed_forms (term_count prob) c (call bytes budget forms trace).forms ≡ listed_forms (term_count prob) s.forms s.records
    = rw (w.forms_are, sym w.count_is) (listed_app (term_count prob) s.forms s.records (drop (length s.records) forms) (records_long (term_count prob) L budget (length forms))) in
    subst (λ (x : List (List ℕ)). Satisfies prob g ↔ Some (SatisfiesForm prob g) x) (sym z) (run_solutions prob acc budget (length forms) d g)

-- every solution agrees with a listed record
pub covers : (bytes : List ℕ) (budget : ℕ) (forms trace : List ℕ) (prob : Problem) → read bytes ≡ parsed prob → (v : Verdict) (n c : ℕ) → (call bytes budget forms trace).answer ≡ ended v n c → (v ≡ FORMS) ⊎ (v ≡ FALSE)
    → (g : Assignment) → Satisfies prob g → Some (λ r. (witness : Term → ℤ) × Agrees (term_count prob) (values prob g witness) r) (listed_forms (term_count prob) c (call bytes budget forms trace).forms)
covers bytes budget forms trace prob e v n c a f g h = some_imp (SatisfiesForm prob g) (λ r. (witness : Term → ℤ) × Agrees (term_count prob) (values prob g witness) r) (λ r s. (s.0, s.1)) _ ((same_solutions bytes budget forms trace prob e v n c a f g).0 h)

-- what satisfies a record is a solution
pub only_solutions : (prob : Problem) → Valid prob → (g : Assignment) (rs : List (List ℕ)) → Some (SatisfiesForm prob g) rs → Satisfies prob g
only_solutions prob acc g rs s = some_any (SatisfiesForm prob g) (Satisfies prob g) (λ r h. any_witness prob acc g h.0 h.2) rs s

pub follows : Follows
unfolding run
follows bytes budget forms trace prob q v n c a =
    let e = (asked_parsed bytes budget (length trace) prob q).0 in
    let w = was bytes budget forms trace prob e v n c a in
    let acc = read_valid bytes prob e in
    let s : Tally = run prob budget (length forms) in
    let L : List Event = log (term_count prob) (constant_terms prob) prob.constraints (term_count prob * suc (set_count prob)) (start (term_count prob)) in
    let g = run_goes prob acc budget (length forms) in
    let long : length s.records ≡ c * record_length (term_count prob) = records_long (term_count prob) L budget (length forms) ∙ ap (λ (x : ℕ). x * record_length (term_count prob)) w.count_is in
    let four : length s.trace ≡ 4 * n = trace_long (term_count prob) (constant_terms prob) L (log_four (term_count prob) (constant_terms prob) prob.constraints (term_count prob * suc (set_count prob)) (start (term_count prob))) budget (length forms) ∙ ap (λ (x : ℕ). 4 * x) w.steps_are in (
      s.records,
      s.trace,
      g.0,
      rw (w.verdict_is, w.steps_are, w.count_is) at g.1,
      sym (ap (take (c * record_length (term_count prob))) w.forms_are ∙ take_at s.records (drop (length s.records) forms) (c * record_length (term_count prob)) long),
      sym (ap (take (4 * n)) w.trace_is ∙ take_at s.trace (drop (length s.trace) trace) (4 * n) four),
      g.2,
    )

of_spent : (e : R.End) (c : ℕ) → verdict_of e c ≡ SPENT → e ≡ R.SPENT
of_spent R.DONE zero p = let w : false ≡ true = cc in absurd (false≢true w)
of_spent R.DONE (suc c) p = let w : false ≡ true = cc in absurd (false≢true w)
of_spent R.SPENT c p = refl
of_spent R.NOROOM c p = let w : false ≡ true = cc in absurd (false≢true w)

of_noroom : (e : R.End) (c : ℕ) → verdict_of e c ≡ NOROOM → e ≡ R.NOROOM
of_noroom R.DONE zero p = let w : false ≡ true = cc in absurd (false≢true w)
of_noroom R.DONE (suc c) p = let w : false ≡ true = cc in absurd (false≢true w)
of_noroom R.SPENT c p = let w : false ≡ true = cc in absurd (false≢true w)
of_noroom R.NOROOM c p = refl

pub stops : Stops
unfolding run
stops bytes budget forms trace prob e n c =
    let s : Tally = run prob budget (length forms) in
    let L : List Event = log (term_count prob) (constant_terms prob) prob.constraints (term_count prob * suc (set_count prob)) (start (term_count prob)) in (
      (λ a. let w = was bytes budget forms trace prob e SPENT n c a in sym w.steps_are ∙ spent_all (term_count prob) L budget (length forms) (of_spent s.end s.forms w.verdict_is)),
      (λ a. let w = was bytes budget forms trace prob e NOROOM n c a in subst (λ (x : ℕ). length forms < suc x * record_length (term_count prob)) w.count_is (room_full (term_count prob) L budget (length forms) (of_noroom s.end s.forms w.verdict_is))),
    )

-- 12 and 13 are asked after the problem's questions
pub asks : (bytes : List ℕ) (budget room : ℕ) →
    ((n : ℕ) → read bytes ≡ refused n → asked bytes budget room ≡ refused n)
    × ((prob : Problem) → read bytes ≡ parsed prob →
    (most_steps < budget → asked bytes budget room ≡ refused 12)
    × (budget ≤ most_steps → room < 4 * budget → asked bytes budget room ≡ refused 13)
    × (budget ≤ most_steps → 4 * budget ≤ room → asked bytes budget room ≡ parsed prob))
unfolding asked ◌>>=◌ ask
asks bytes budget room = (
  (λ n q. rw q),
  (λ prob q. (
    (λ l. rw (q, lt-leb budget most_steps l)),
    (λ l r. rw (q, le-leb budget most_steps l, lt-leb (4 * budget) room r)),
    (λ l r. rw (q, le-leb budget most_steps l, le-leb (4 * budget) room r)),
  )),
)

over_length : (xs ys : List ℕ) → length xs ≤ length ys → length (over xs ys) ≡ length ys
over_length xs ys l = omega (arith, length-append xs (drop (length xs) ys), length-drop (length xs) ys)

pub kept : Kept
unfolding call run
kept bytes budget forms trace = (
  (λ n q. rw q),
  (λ prob q.
      let s : Tally = run prob budget (length forms) in
      let L : List Event = log (term_count prob) (constant_terms prob) prob.constraints (term_count prob * suc (set_count prob)) (start (term_count prob)) in
      let long = records_long (term_count prob) L budget (length forms) in
      let fit = records_fit (term_count prob) L budget (length forms) in
      let few = steps_fit (term_count prob) L budget (length forms) in
      let room = (asked_parsed bytes budget (length trace) prob q).2 in
      let four = trace_long (term_count prob) (constant_terms prob) L (log_four (term_count prob) (constant_terms prob) prob.constraints (term_count prob * suc (set_count prob)) (start (term_count prob))) budget (length forms) in
      rw q (
        verdict_of s.end s.forms,
        s.steps,
        s.forms,
        refl,
        few,
        omega (arith, long, fit),
        over_length s.records forms fit,
        drop_at s.records (drop (length s.records) forms) (s.forms * record_length (term_count prob)) long ∙ ap (λ (k : ℕ). drop k forms) long,
        over_length s.trace trace (omega (arith, four, few, room)),
        drop_at s.trace (drop (length s.trace) trace) (4 * s.steps) four ∙ ap (λ (k : ℕ). drop k trace) four,
      )),
)
