-- The laws of reading the constraints one by one. Assumes nothing.
use mathlib.Core.Path.{◌≡◌, refl, sym, ap, ◌∙◌}
use mathlib.Core.Bool.{Bool, true, false, ◌&&◌}
use mathlib.Core.List.{List, [], ◌∷◌, ◌++◌, append-nil}
use Prim.Native.Nat.{ℕ, suc, ◌+◌, ◌-◌, ◌%◌, ◌<◌, ◌≤◌}
use native.Mathlib.Omega.{arith}
use native.Mathlib.Numerals.{add-one}
use native.Mathlib.Decide.{ℕ_discrete}
use lib.ListN.{length, get_or, take, drop, set, replicate, length-append, length-drop, length-replicate, drop_of_length-le}
use lib.Seq.{drop-drop, drop-append_seam, length-take-le, sets, sets-eq, take-length, get_or-set_other}
use lib.Dec.{ltb}
use lib.IntN.{ℤ}
use Rattle.std.specs.Prelude.{Result, Ok, Err}
use Rattle.std.proofs.lemmas.List.{drop-replicate}
use Rattle.calculus.specs.Limits.{most_constraints}
use Rattle.calculus.specs.Terms.{term, set_var}
use Rattle.calculus.specs.Relations.{unequal}
use Rattle.calculus.specs.Meaning.{Constraint, member, nonmember, same, different, relation, negation, exactly, interval}
use Rattle.calculus.specs.Problem.{Rising, uses}
use Rattle.calculus.specs.Encoding.{encode_constraint}
use Rattle.calculus.specs.Reading.{Parsed, parsed, refused, ◌>>=◌, ask, byte, refuse, of_sets, kinds, constraint, constraints}
use Rattle.calculus.proofs.ConstraintParsers.{constraint_reads, constraints_read}
use Rattle.questions.specs.declared.Scanned.{Scanned}
use Rattle.questions.specs.declared.refusal.Refusal.{Refusal}
use Rattle.questions.specs.Answers.{number_of, Answers}
use Rattle.questions.specs.Questions.{ScannedAs, Scans}
use Rattle.questions.proofs.Answers.{was_parsed, was_refused}
use Rattle.slices.specs.Bytes.{filled}
use Rattle.problem.specs.declared.table.Line.{Line}
use Rattle.problem.specs.declared.sections.Found.{Found}
use Rattle.problem.specs.Sections.{no_line, lines_found, found_of, FoundAs}

-- a constraint has at most one witness
pub uses_one : (l : Constraint) → uses l ≤ 1
uses_one (member t A) = omega arith
uses_one (nonmember t A) = omega arith
uses_one (same t u) = omega arith
uses_one (different t u) = omega arith
uses_one (relation k A B C) = omega arith
uses_one (negation k A B C u) = omega arith
uses_one (exactly A es) = omega arith
uses_one (interval A i j es) = omega arith

-- ---- the next witness's number matters only to the witness

-- both are refused by the same question, or read alike but for the witness
abbrev Alike : Parsed (Constraint × List ℕ) → Parsed (Constraint × List ℕ) → Type 0
Alike (parsed a) (parsed b) = (uses a.0 ≡ uses b.0) × (a.1 ≡ b.1)
Alike (parsed a) (refused k) = ⊥
Alike (refused j) (parsed b) = ⊥
Alike (refused j) (refused k) = j ≡ k

alike : (m : Parsed (Constraint × List ℕ)) → Alike m m
alike (parsed a) = (refl, refl)
alike (refused n) = refl

module _ (cs : List ℤ) (N S w : ℕ) where
  unequal_alike : (bs : List ℕ) → Alike (of_sets cs N S (λ A B. negation unequal A B A (term w)) bs) (of_sets cs N S (λ A B. negation unequal A B A (term 0)) bs)
  unfolding ◌>>=◌ byte ask
  unequal_alike [] = refl
  unequal_alike (x ∷ []) = refl
  unequal_alike (x ∷ y ∷ r) = go (ltb x S && ltb y S)
    where
      go : (t : Bool) → Alike (ask 8 t >>= λ _. parsed (negation unequal (set_var x) (set_var y) (set_var x) (term w), r)) (ask 8 t >>= λ _. parsed (negation unequal (set_var x) (set_var y) (set_var x) (term 0), r))
      go true = (refl, refl)
      go false = refl

  constraint_alike : (bs : List ℕ) → Alike (constraint cs N S w bs) (constraint cs N S 0 bs)
  unfolding ◌>>=◌ byte
  constraint_alike [] = refl
  constraint_alike (k ∷ rest) = go (ℕ_discrete k 6)
    where
      go : Dec (k ≡ 6) → Alike (get_or (kinds cs N S w) k (refuse 7) rest) (get_or (kinds cs N S 0) k (refuse 7) rest)
      go (yes e) = rw e (unequal_alike rest)
      go (no n) =
          let e : get_or (kinds cs N S w) k (refuse 7) ≡ get_or (kinds cs N S 0) k (refuse 7) = get_or-set_other (kinds cs N S 0) 6 k (of_sets cs N S (λ A B. negation unequal A B A (term w))) (refuse 7) n in
          rw e (alike (get_or (kinds cs N S 0) k (refuse 7) rest))

-- ---- one constraint of the problem

-- a part that has all from a place on
pub tail_is : (bs : List ℕ) (d : ℕ) → take (length bs - d) (drop d bs) ≡ drop d bs
tail_is bs d = rw (← length-drop d bs) (take-length (drop d bs))

-- what the answer of `constraint_at` tells of the bytes from a place on, w being the next witness
pub record One (cs : List ℤ) (N S : ℕ) (bs : List ℕ) (done w : ℕ) (one : Scanned) : Type 0 where
  pub this : Constraint
  pub reads : constraint cs N S w (drop done bs) ≡ parsed (this, drop (done + one.length) bs)
  pub size : one.length ≡ length (encode_constraint this)
  pub fits : done + one.length ≤ length bs
  pub witness : one.witnesses ≡ uses this

module _ (cs : List ℤ) (N S : ℕ) (bs : List ℕ) (done w : ℕ) where
  pub one_refused : (q : Refusal) → Scans (length (drop done bs)) (constraint cs N S 0 (drop done bs)) (Err q) → constraint cs N S w (drop done bs) ≡ refused (number_of q)
  one_refused q h =
      let r = was_refused (ScannedAs (length (drop done bs))) (constraint cs N S 0 (drop done bs)) q h in
      go (constraint cs N S w (drop done bs)) (rw r at (constraint_alike cs N S w (drop done bs)))
    where
      go : (m : Parsed (Constraint × List ℕ)) → Alike m (refused (number_of q)) → m ≡ refused (number_of q)
      go (refused n) e = ap refused e
      go (parsed a) e = absurd e

  pub one_read : Rising cs → length cs ≤ N → (one : Scanned) → Scans (length (drop done bs)) (constraint cs N S 0 (drop done bs)) (Ok one) → done ≤ length bs → One cs N S bs done w one
  one_read up known one h l =
      let r = was_parsed (ScannedAs (length (drop done bs))) (constraint cs N S 0 (drop done bs)) one h in
      go r.0 r.2 (constraint cs N S w (drop done bs)) refl (rw r.1 at (constraint_alike cs N S w (drop done bs)))
    where
      go : (b : Constraint × List ℕ) → ScannedAs (length (drop done bs)) b one → (m : Parsed (Constraint × List ℕ)) → constraint cs N S w (drop done bs) ≡ m → Alike m (parsed b) → One cs N S bs done w one
      go b s (refused n) q k = absurd k
      go b s (parsed a) q k =
          let g = (constraint_reads cs N S up known w).wrote (drop done bs) a q in
          let x : (g.0, g.2) ≡ a = cc g.4 in
          let u : List ℕ = encode_constraint a.0 in
          let d : drop done bs ≡ u ++ a.1 = g.3 ∙ ap (λ (y : List ℕ). y ++ g.2) g.5.0 ∙ ap (λ (c : Constraint × List ℕ). encode_constraint c.0 ++ c.1) x in
          let n : length (drop done bs) ≡ length u + length a.1 = ap length d ∙ length-append u a.1 in
          let z : one.length ≡ length u = omega (arith, ap length k.1) in
          let e : drop (done + one.length) bs ≡ a.1 = rw (z, ← drop-drop (length u) done bs, d) (drop-append_seam u a.1) in
          record {
            this = a.0;
            reads = rw e q;
            size = z;
            fits = omega (arith, length-drop done bs);
            witness = s.1 ∙ sym k.0;
          }

-- ---- all of them

found_length : (at w : ℕ) (ls : List Constraint) → length (lines_found at w ls) ≡ length ls
found_length at w [] = refl
found_length at w (l ∷ ls) = ap suc (found_length (at + length (encode_constraint l)) (w + uses l) ls)

pub first_lines : (m : ℕ) → m ≤ most_constraints → length (take m (replicate most_constraints no_line)) ≡ m
first_lines m l = length-take-le m (replicate most_constraints no_line) (rw (length-replicate most_constraints no_line) l)

-- lines in place of the first m, and the others as they were
stored : (m : ℕ) (xs : List Line) → length xs ≡ m → m ≤ most_constraints
    → sets (take m (replicate most_constraints no_line)) 0 xs ++ drop m (replicate most_constraints no_line) ≡ filled no_line most_constraints xs
stored m xs e l =
    let z : drop (0 + length xs) (take m (replicate most_constraints no_line)) ≡ [] = drop_of_length-le _ {i = 0 + length xs} (omega (arith, first_lines m l)) in
    rw (sets-eq xs (take m (replicate most_constraints no_line)) 0 (omega (arith, first_lines m l)), z, append-nil xs, drop-replicate m most_constraints no_line, e) refl

-- the first constraint stands at a place `at` of the problem
module _ (cs : List ℤ) (N S : ℕ) (bs : List ℕ) (at m : ℕ) where
  -- what is found once the rest is read, from done on, and stored from line i of the first m on
  abbrev Stored : (done w i : ℕ) → List Line → List Constraint × ℕ × List ℕ → Found → Type 0
  Stored done w i lines a r = r ≡ record { length = length bs - length a.2; terms = a.1; lines = sets lines i (lines_found (at + done) w a.0) ++ drop m (replicate most_constraints no_line) }

  abbrev Rest : (done w i : ℕ) → List Line → Result Found Refusal → Type 0
  Rest done w i lines r = Answers (Stored done w i lines) (constraints cs N S w (m - i) (drop done bs)) r

  abbrev All : Result Found Refusal → Type 0
  All r = Answers (FoundAs at N (length bs)) (constraints cs N S N m bs) r

  -- what answers the rest answers all
  abbrev pub Ends : (done w i : ℕ) → List Line → Type 0
  Ends done w i lines = (r : Result Found Refusal) → Rest done w i lines r → All r

  pub ends_all : Rising cs → length cs ≤ N → m ≤ most_constraints → Ends 0 N 0 (take m (replicate most_constraints no_line))
  unfolding found_of
  ends_all up known few r h =
      let z : m - 0 ≡ m = omega arith in
      go (constraints cs N S N m bs) refl r (rw z at h)
    where
      go : (p : Parsed (List Constraint × ℕ × List ℕ)) → constraints cs N S N m bs ≡ p → (r : Result Found Refusal) → Answers (Stored 0 N 0 (take m (replicate most_constraints no_line))) p r → Answers (FoundAs at N (length bs)) p r
      go (parsed a) q (Ok f) h =
          let g = (constraints_read cs N S up known m N).wrote bs a q in
          let y : g.0.0 ≡ a.0 = cc g.4 in
          let z : at + 0 ≡ at = omega arith in
          rw (← stored m (lines_found at N a.0) (omega (arith, found_length at N a.0, ap length y, g.5.0)) few) (rw z at h)
      go (parsed a) q (Err e) h = h
      go (refused n) q (Ok f) h = h
      go (refused n) q (Err e) h = h

  module _ (done w i : ℕ) (lines : List Line) where
    -- one turn of the loop
    pub ends_more : (one : Scanned) → One cs N S bs done w one → i < m → Ends done w i lines
        → Ends (done + one.length) (w + one.witnesses) (i + 1) (set lines i (record { at = at + done; witness = record { 0 = w % 256 } }))
    unfolding ◌>>=◌
    ends_more one h l e r g =
        let n : m - i ≡ suc (m - (i + 1)) = omega arith in
        e r (rw (n, h.reads, ← h.witness) (go (constraints cs N S (w + one.witnesses) (m - (i + 1)) (drop (done + one.length) bs)) r g))
      where
        go : (p : Parsed (List Constraint × ℕ × List ℕ)) (r : Result Found Refusal)
            → Answers (Stored (done + one.length) (w + one.witnesses) (i + 1) (set lines i (record { at = at + done; witness = record { 0 = w % 256 } }))) p r
            → Answers (Stored done w i lines) (p >>= λ a. parsed (h.this ∷ a.0, a.1, a.2)) r
        go (parsed a) (Ok f) g =
            let z : at + (done + one.length) ≡ at + done + length (encode_constraint h.this) = omega (arith, h.size) in
            rw (z, h.witness, add-one i) at g
        go (parsed a) (Err q) g = g
        go (refused n) (Ok f) g = g
        go (refused n) (Err q) g = g

    pub rest_refused : (q : Refusal) → constraint cs N S w (drop done bs) ≡ refused (number_of q) → i < m → Rest done w i lines (Err q)
    unfolding ◌>>=◌
    rest_refused q e l = let n : m - i ≡ suc (m - (i + 1)) = omega arith in rw (n, e) refl
