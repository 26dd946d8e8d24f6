-- The laws of what is read through the table of an accepted problem. Assumes nothing.
use mathlib.Core.Path.{◌≡◌, refl, sym, ap, ◌∙◌, subst}
use mathlib.Core.List.{List, [], ◌∷◌, ◌++◌, map, append-nil, append_assoc}
use Prim.Native.Nat.{ℕ, zero, suc, ◌+◌, ◌*◌, ◌-◌, ◌<◌, ◌≤◌}
use native.Mathlib.Omega.{arith}
use native.Mathlib.Decide.{dec_lt}
use native.Mathlib.Nat.{le_of_suc-le-suc}
use lib.ListN.{length, get_or, take, drop, length-append, length-drop, length-map, get_or-append, get_or-eq_default}
use lib.Seq.{drop_at, take_at, drop-drop, drop-append_seam, get_or-drop}
use lib.IntN.{ℤ, pos}
use Rattle.std.specs.Prelude.{Option, Some, None}
use Rattle.calculus.specs.Limits.{most_bytes, most_sets, most_constraints, most_terms}
use Rattle.calculus.specs.Lists.{gather}
use Rattle.calculus.specs.Terms.{Term, SetVar, term, set_var}
use Rattle.calculus.specs.Relations.{Negation, equal, union, disjoint, subset, intersection, unequal}
use Rattle.calculus.specs.Meaning.{Constraint, member, nonmember, same, different, relation, negation, exactly, interval}
use Rattle.calculus.specs.Problem.{Problem, nameable, term_count, uses, Tied, Numbered}
use Rattle.calculus.specs.Encoding.{encode_constraint}
use Rattle.calculus.specs.Reading.{Parsed, parsed, refused, words, read}
use Rattle.calculus.proofs.Words.{words_length}
use Rattle.calculus.proofs.Parsers.{one, counted, answered, then, at_given}
use Rattle.calculus.proofs.Sections.{First}
use Rattle.calculus.proofs.ReadValid.{first_question, read_first, read_valid}
use Rattle.calculus.proofs.Sequences.{term_index}
use Rattle.problem.specs.declared.table.Table.{Table}
use Rattle.problem.specs.declared.table.Line.{Line}
use Rattle.slices.specs.Bytes.{places_from}
use Rattle.slices.proofs.Parts.{filled_at}
use Rattle.questions.specs.Questions.{constants_of, constant_at}
use Rattle.problem.specs.Sections.{witnesses_from, no_line, lines_from}
use Rattle.problem.specs.Table.{header_length, problem_table, table_of, line_of, Opened, Stands, values_of, constant_of, constraints_of, no_constraint, constraint_of, kind_of, witnesses_of, witness_of}
use Rattle.questions.proofs.Constants.{constant_read_at}

-- ---- an opened table is that of a problem that was read

pub record Read (bs : List ℕ) (tab : Table) : Type 0 where
  pub prob : Problem
  pub reads : read bs ≡ parsed prob
  pub shows : tab ≡ problem_table prob

abbrev given_table : Option Table → Table → Table
given_table (Some t) d = t
given_table None d = d

pub opened : (bs : List ℕ) (tab : Table) → Opened bs tab → Read bs tab
unfolding table_of
opened bs tab o = go (read bs) refl
  where
    go : (m : Parsed Problem) → read bs ≡ m → Read bs tab
    go (parsed prob) q = record { prob = prob; reads = q; shows = sym (ap (λ (x : Option Table). given_table x tab) (sym (ap table_of q) ∙ o)) }
    go (refused n) q =
        let z : ◌≡◌ {A = ℕ} 0 1 = ap (λ (x : Option Table). elim x [ None ↦ 0 | Some t ↦ 1 ]) (sym (ap table_of q) ∙ o) in
        absurd (omega arith)

-- ---- where the constraints stand

header_ends : (prob : Problem) (u : List ℕ) → First prob u → drop (header_length prob) u ≡ gather encode_constraint prob.constraints
header_ends prob u (then (one {b = k}) (then (counted {xs = ws} e₁) (answered t₃ (then (one {b = n}) (then (counted {xs = ns} e₂) (answered t₄ (then (one {b = s}) (then (counted {xs = ss} e₃) (answered t₅ (then (one {b = m}) (answered t₆ (then {a = a} {u = x} ls (answered t₁₁ w))))))))))))) =
    let g : List ℕ = gather encode_constraint a.0 in
    let front : List ℕ = (k ∷ ws) ++ ((n ∷ ns) ++ ((s ∷ ss) ++ (m ∷ []))) in
    let l : length front ≡ 4 + 2 * length (words ws) + length ns + length ss =
    omega (arith, length-append (k ∷ ws) ((n ∷ ns) ++ ((s ∷ ss) ++ (m ∷ []))), length-append (n ∷ ns) ((s ∷ ss) ++ (m ∷ [])), length-append (s ∷ ss) (m ∷ []), words_length k ws e₁) in
    let j : (k ∷ ws) ++ ((n ∷ ns) ++ ((s ∷ ss) ++ (m ∷ g))) ≡ front ++ g =
    sym (append_assoc (k ∷ ws) ((n ∷ ns) ++ ((s ∷ ss) ++ (m ∷ []))) g
    ∙ ap (λ (y : List ℕ). (k ∷ ws) ++ y) (append_assoc (n ∷ ns) ((s ∷ ss) ++ (m ∷ [])) g ∙ ap (λ (y : List ℕ). (n ∷ ns) ++ y) (append_assoc (s ∷ ss) (m ∷ []) g))) in
    at_given (λ p v. drop (header_length p) (k ∷ ws ++ (n ∷ ns ++ (s ∷ ss ++ (m ∷ x ++ v)))) ≡ gather encode_constraint p.constraints) w (rw (append-nil x, ls.1, j) (drop_at front g (4 + 2 * length (words ws) + length ns + length ss) l))

-- ---- the constants

constants_stand : (prob : Problem) (u : List ℕ) → First prob u → (1 + 2 * length prob.constants ≤ length u) × (constants_of u (length prob.constants) ≡ prob.constants)
unfolding constants_of
constants_stand prob u (then (one {b = k}) (then (counted {xs = ws} e₁) (answered t₃ (then (one {b = n}) (then (counted {xs = ns} e₂) (answered t₄ (then (one {b = s}) (then (counted {xs = ss} e₃) (answered t₅ (then (one {b = m}) (answered t₆ (then {a = a} {u = x} ls (answered t₁₁ w))))))))))))) =
    let g : List ℕ = n ∷ (ns ++ (s ∷ (ss ++ (m ∷ (x ++ []))))) in
    let l : length ws ≡ 2 * length (words ws) = omega (arith, words_length k ws e₁) in
    at_given (λ p v. (1 + 2 * length p.constants ≤ length (k ∷ ws ++ (n ∷ ns ++ (s ∷ ss ++ (m ∷ x ++ v))))) × (constants_of (k ∷ ws ++ (n ∷ ns ++ (s ∷ ss ++ (m ∷ x ++ v)))) (length p.constants) ≡ p.constants)) w (omega (arith, length-append ws g), ap words (take_at ws g (2 * length (words ws)) l))

pub constant_read : (bs : List ℕ) (tab : Table) (t : ℕ) → Opened bs tab → t < tab.constants → (2 + 2 * t < length bs) × (constant_at bs t ≡ constant_of bs t)
unfolding problem_table constant_of values_of
constant_read bs tab t o l =
    let r = opened bs tab o in
    let prob : Problem = r.prob in
    let q = first_question bs prob r.reads in
    let k : tab.constants ≡ length prob.constants = ap (λ (x : Table). x.constants) r.shows in
    let s = constants_stand prob bs (read_first bs prob q.1) in
    (omega (arith, s.0), rw r.reads (sym (constant_read_at bs (length prob.constants) t s.0 (omega arith)) ∙ ap (λ (cs : List ℤ). get_or cs t (pos 0)) s.1))

-- ---- where each constraint stands

-- constraint i stands where its offset says
stands_at : (bs : List ℕ) (ls : List Constraint) (at w i : ℕ) → drop at bs ≡ gather encode_constraint ls → i < length ls
    → drop ((get_or (lines_from at w ls) i no_line).at) bs ≡ encode_constraint (get_or ls i no_constraint) ++ gather encode_constraint (drop (suc i) ls)
stands_at bs [] at w i e l = absurd (omega arith)
stands_at bs (x ∷ ls) at w zero e l = e
stands_at bs (x ∷ ls) at w (suc i) e l =
    stands_at bs ls (at + length (encode_constraint x)) (w + uses x) i
    (sym (drop-drop (length (encode_constraint x)) at bs) ∙ ap (drop (length (encode_constraint x))) e ∙ drop-append_seam (encode_constraint x) (gather encode_constraint ls))
    (le_of_suc-le-suc l)

pub record Placed (bs : List ℕ) (tab : Table) (i : ℕ) : Type 0 where
  pub small : i < most_constraints
  pub short : length bs ≤ most_bytes
  pub low : (line_of tab i).at < length bs
  pub rest : List ℕ
  pub here : drop ((line_of tab i).at) bs ≡ encode_constraint (constraint_of bs i) ++ rest

-- ---- a constraint's bytes: its kind, and then its operands

kind_first : (l : Constraint) → (more : List ℕ) × (encode_constraint l ≡ kind_of l ∷ more)
kind_first (member t A) = (_, refl)
kind_first (nonmember t A) = (_, refl)
kind_first (same t u) = (_, refl)
kind_first (different t u) = (_, refl)
kind_first (relation equal A B C) = (_, refl)
kind_first (relation union A B C) = (_, refl)
kind_first (relation disjoint A B C) = (_, refl)
kind_first (relation subset A B C) = (_, refl)
kind_first (relation intersection A B C) = (_, refl)
kind_first (negation unequal A B C w) = (_, refl)
kind_first (exactly A es) = (_, refl)
kind_first (interval A i j es) = (_, refl)

pub placed : (bs : List ℕ) (tab : Table) (i : ℕ) → Opened bs tab → i < tab.constraints → Placed bs tab i
unfolding problem_table constraint_of constraints_of
placed bs tab i o l =
    let r = opened bs tab o in
    let prob : Problem = r.prob in
    let q = first_question bs prob r.reads in
    let v = read_valid bs prob r.reads in
    let n : tab.constraints ≡ length prob.constraints = ap (λ (t : Table). t.constraints) r.shows in
    let li : i < length prob.constraints = omega arith in
    let s : List Line = lines_from (header_length prob) (nameable prob) prob.constraints in
    let a : (line_of tab i).at ≡ (get_or s i no_line).at = ap (λ (t : Table). (line_of t i).at) r.shows ∙ ap (λ (x : Line). x.at) (filled_at no_line most_constraints s i) in
    let c : constraint_of bs i ≡ get_or prob.constraints i no_constraint = rw r.reads in
    let more : List ℕ = gather encode_constraint (drop (suc i) prob.constraints) in
    let h : drop ((line_of tab i).at) bs ≡ encode_constraint (constraint_of bs i) ++ more =
    ap (λ (x : ℕ). drop x bs) a ∙ stands_at bs prob.constraints (header_length prob) (nameable prob) i (header_ends prob bs (read_first bs prob q.1)) li ∙ ap (λ (x : Constraint). encode_constraint x ++ more) (sym c) in
    let d : length bs - (line_of tab i).at ≡ length (encode_constraint (constraint_of bs i)) + length more = sym (length-drop ((line_of tab i).at) bs) ∙ ap length h ∙ length-append (encode_constraint (constraint_of bs i)) more in
    let f = kind_first (constraint_of bs i) in
    let p : length (encode_constraint (constraint_of bs i)) ≡ suc (length f.0) = ap length f.1 in
    record { small = omega (arith, v.few_constraints); short = q.0; low = omega arith; rest = more; here = h }

pub line_low : (bs : List ℕ) (tab : Table) (i : ℕ) → Opened bs tab → i < tab.constraints → (line_of tab i).at < length bs
line_low bs tab i o l = (placed bs tab i o l).low

-- ---- what is read

module _ (bs : List ℕ) (tab : Table) (i : ℕ) (h : Placed bs tab i) where
  abbrev at : ℕ
  at = (line_of tab i).at

  abbrev this : Constraint
  this = constraint_of bs i

  byte_there : (j : ℕ) → j < length (encode_constraint this) → (at + j < length bs) × (get_or bs (at + j) 0 ≡ get_or (encode_constraint this) j 0)
  byte_there j l =
      let d : length bs - at ≡ length (encode_constraint this) + length h.rest = sym (length-drop at bs) ∙ ap length h.here ∙ length-append (encode_constraint this) h.rest in
      (omega arith, sym (get_or-drop at bs j 0) ∙ ap (λ (xs : List ℕ). get_or xs j 0) h.here ∙ get_or-append (encode_constraint this) h.rest 0 j l)

  pub kind_read : get_or bs at 0 ≡ kind_of this
  kind_read =
      let z : at + 0 ≡ at = omega arith in
      let f = kind_first this in
      ap (λ (x : ℕ). get_or bs x 0) (sym z) ∙ (byte_there 0 (omega (arith, ap length f.1))).1 ∙ ap (λ (xs : List ℕ). get_or xs 0 0) f.1

-- ---- the entries of a list constraint

-- a constraint of kind 11 is a list
list_is : (l : Constraint) → kind_of l ≡ 11 → (A : SetVar) × (es : List Term) × (l ≡ exactly A es)
list_is (member t A) e = absurd (omega arith)
list_is (nonmember t A) e = absurd (omega arith)
list_is (same t u) e = absurd (omega arith)
list_is (different t u) e = absurd (omega arith)
list_is (relation equal A B C) e = absurd (omega arith)
list_is (relation union A B C) e = absurd (omega arith)
list_is (relation disjoint A B C) e = absurd (omega arith)
list_is (relation subset A B C) e = absurd (omega arith)
list_is (relation intersection A B C) e = absurd (omega arith)
list_is (negation unequal A B C w) e = absurd (omega arith)
list_is (exactly A es) e = (A, es, refl)
list_is (interval A i j es) e = absurd (omega arith)

-- line are the bytes from its kind byte on
module _ (bs : List ℕ) (tab : Table) (i : ℕ) (h : Placed bs tab i) (k : kind_of (constraint_of bs i) ≡ 11) (line : List ℕ) (from : line ≡ drop ((line_of tab i).at) bs) where
  abbrev A : SetVar
  A = (list_is (constraint_of bs i) k).0

  abbrev list : List Term
  list = (list_is (constraint_of bs i) k).1

  abbrev es : List ℕ
  es = map (λ (e : Term). e.index) list

  -- the bytes after a list's set are its count and its entries
  line_is : line ≡ 11 ∷ A.index ∷ length list ∷ (es ++ h.rest)
  line_is = from ∙ h.here ∙ ap (λ (l : Constraint). encode_constraint l ++ h.rest) (list_is (constraint_of bs i) k).2

  pub list_fits : (2 < length line) × (3 + get_or line 2 0 ≤ length line)
  list_fits = rw line_is (omega (arith, length-append es h.rest, length-map list (λ (e : Term). e.index)))

  pub list_read : constraint_of bs i ≡ exactly (set_var (get_or bs ((line_of tab i).at + 1) 0)) (map term (take (3 + get_or line 2 0 - 3) (drop 3 line)))
  list_read =
      let n : 3 + length list - 3 ≡ length list = omega arith in
      let s : get_or bs ((line_of tab i).at + 1) 0 ≡ A.index = sym (get_or-drop ((line_of tab i).at) bs 1 0) ∙ ap (λ (xs : List ℕ). get_or xs 1 0) (sym from ∙ line_is) in
      rw (s, line_is, n, take_at es h.rest (length list) (length-map list (λ (e : Term). e.index)), term_index list) (list_is (constraint_of bs i) k).2

-- ---- a constraint that stands at an offset

-- it stands where an opened table says
pub stands : (bs : List ℕ) (tab : Table) (i : ℕ) → Opened bs tab → i < tab.constraints → Stands bs i (line_of tab i).at
stands bs tab i o l = record { tab = tab; opened = o; there = l; offset = refl }

pub place_of : (bs : List ℕ) (i p : ℕ) (s : Stands bs i p) → Placed bs s.tab i
place_of bs i p s = placed bs s.tab i s.opened s.there

pub stands_low : (bs : List ℕ) (i p : ℕ) → Stands bs i p → p < length bs
stands_low bs i p s = omega (arith, s.offset, (place_of bs i p s).low)

-- its entries, if it is a list
module _ (bs : List ℕ) (i at : ℕ) (line : List ℕ) (s : Stands bs i at) (from : line ≡ drop at bs) (k : kind_of (constraint_of bs i) ≡ 11) where
  here : line ≡ drop (line_of s.tab i).at bs
  here = from ∙ ap (λ (x : ℕ). drop x bs) s.offset

  pub list_counted : 2 < length line
  list_counted = (list_fits bs s.tab i (place_of bs i at s) k line here).0

  pub list_there : 3 + get_or line 2 0 ≤ length line
  list_there = (list_fits bs s.tab i (place_of bs i at s) k line here).1

  pub list_read_at : constraint_of bs i ≡ exactly (set_var (get_or bs (at + 1) 0)) (map term (take (3 + get_or line 2 0 - 3) (drop 3 line)))
  list_read_at =
      subst (λ (x : ℕ). constraint_of bs i ≡ exactly (set_var (get_or bs (x + 1) 0)) (map term (take (3 + get_or line 2 0 - 3) (drop 3 line)))) (sym s.offset) (list_read bs s.tab i (place_of bs i at s) k line here)

-- ---- the witnesses

witness_line : (p w : ℕ) (ls : List Constraint) (i : ℕ) → (get_or (lines_from p w ls) i no_line).witness.0 ≡ get_or (witnesses_from w ls) i 0
unfolding places_from
witness_line p w [] i = refl
witness_line p w (l ∷ ls) zero = refl
witness_line p w (l ∷ ls) (suc i) = witness_line (p + length (encode_constraint l)) (w + uses l) ls i

pub witness_read : (bs : List ℕ) (tab : Table) (i : ℕ) → Opened bs tab → i < most_constraints → term ((line_of tab i).witness.0) ≡ witness_of bs i
unfolding problem_table witness_of witnesses_of
witness_read bs tab i o l =
    let r = opened bs tab o in
    let ls : List Constraint = r.prob.constraints in
    let s : List Line = lines_from (header_length r.prob) (nameable r.prob) ls in
    rw r.reads (ap term (ap (λ (t : Table). (line_of t i).witness.0) r.shows ∙ ap (λ (x : Line). x.witness.0) (filled_at no_line most_constraints s i) ∙ witness_line (header_length r.prob) (nameable r.prob) ls i))

numbered_at : (ls : List Constraint) (w last i : ℕ) → Numbered w last ls → i < length ls → Tied (get_or (witnesses_from w ls) i 0) (get_or ls i no_constraint)
unfolding places_from
numbered_at [] w last i n l = absurd (omega arith)
numbered_at (x ∷ ls) w last zero n l = n.0
numbered_at (x ∷ ls) w last (suc i) n l = numbered_at ls (w + uses x) last i n.1 (le_of_suc-le-suc l)

-- of a constraint that has a witness it is that one
pub witness_is : (bs : List ℕ) (tab : Table) (i : ℕ) → Opened bs tab → (k : Negation) (A B C : SetVar) (u : Term) → constraint_of bs i ≡ negation k A B C u → witness_of bs i ≡ u
unfolding constraint_of constraints_of witness_of witnesses_of
witness_is bs tab i o k A B C u e =
    let r = opened bs tab o in
    let ls : List Constraint = r.prob.constraints in
    let c : get_or ls i no_constraint ≡ negation k A B C u = rw r.reads at e in
    rw r.reads (ap term (sym (subst (λ (x : Constraint). Tied (get_or (witnesses_from (nameable r.prob) ls) i 0) x) c (numbered_at ls (nameable r.prob) (term_count r.prob) i (read_valid bs r.prob r.reads).numbered (in_list ls c (dec_lt i (length ls)))))))
  where
    in_list : (ls : List Constraint) → get_or ls i no_constraint ≡ negation k A B C u → Dec (i < length ls) → i < length ls
    in_list ls c (yes l) = l
    in_list ls c (no l) =
        let f : length ls ≤ i = omega arith in
        let q : no_constraint ≡ negation k A B C u = sym (get_or-eq_default ls no_constraint f) ∙ c in
        let y : ◌≡◌ {A = ℕ} 0 1 = cc in
        absurd (omega arith)

-- the counts of an opened table
pub opened_sizes : (bs : List ℕ) (tab : Table) → Opened bs tab → (tab.constraints ≤ most_constraints) × (tab.sets ≤ most_sets) × (tab.terms ≤ most_terms)
unfolding problem_table
opened_sizes bs tab o =
    let r = opened bs tab o in
    let v = read_valid bs r.prob r.reads in
    rw r.shows (v.few_constraints, v.few_sets, v.few_terms)

-- and the count of its constraints
pub constraint_count : (bs : List ℕ) (tab : Table) → Opened bs tab → tab.constraints ≡ length (constraints_of (read bs))
unfolding problem_table constraints_of
constraint_count bs tab o = let r = opened bs tab o in rw r.reads (ap (λ (t : Table). t.constraints) r.shows)
