-- One constraint: the parsers of the definition are the tests of the code, operand by operand.
use mathlib.Core.Path.{◌≡◌, refl, sym, ap, ◌∙◌}
use mathlib.Core.Logic.{◌⊎◌, inl, inr}
use mathlib.Core.Bool.{Bool, true, false, ◌&&◌, cond, and-true}
use mathlib.Core.List.{List, [], ◌∷◌, map}
use Prim.Native.Nat.{ℕ, suc, ◌+◌, ◌<◌, ◌≤◌}
use native.Mathlib.Omega.{arith}
use lib.ListN.{length, get_or, take, drop, length-drop, get_or-eq_default}
use lib.Dec.{leb, ltb}
use lib.IntN.{ℤ}
use borrow.Author.Tests.{le-leb, lt-leb, leb-true, leb-false}
use mir.Val.{bool_byte}
use denote.Enum.Bare.{sameb}
use Rattle.std.proofs.Math.Bool.{and_assoc}
use Rattle.std.specs.Prelude.{Ok, Err}
use Rattle.std.specs.List.{list_all}
use Rattle.calculus.specs.Lists.{all}
use Rattle.calculus.specs.Terms.{SetVar, term, set_var}
use Rattle.calculus.specs.Relations.{union, intersection}
use Rattle.calculus.specs.Meaning.{Constraint, relation, exactly, interval}
use Rattle.calculus.specs.Problem.{entries, uses}
use Rattle.calculus.specs.Reading.{parsed, ◌>>=◌, ask, byte, bytes, gapless, refuse, two, three, of_list, of_interval, kinds, constraint}
use Rattle.questions.specs.declared.refusal.Refusal.{Refusal}
use Rattle.questions.specs.declared.refusal.Refusal.TheVariants as refusals
use Rattle.questions.specs.declared.kind.Kind.{Kind}
use Rattle.questions.specs.declared.kind.Kind.TheVariants.{Member, Nonmember, Same, Different, Equal, Unequal, Union, Disjoint, Subset, Intersection, Exactly, Interval}
use Rattle.questions.specs.contracts.kind.Kind.{the_type}
use Rattle.questions.specs.Answers.{number_of, Answers}
use Rattle.questions.specs.Kinds.{code_of}
use Rattle.questions.specs.Questions.{operands_at, list_at, interval_at, then_gapless, kind_at, ScannedAs, Scans}
use Rattle.questions.proofs.Answers.{was_parsed, was_refused, answer_parsed, answer_refused}

-- so many bytes of all, and so many witnesses
abbrev pub OperandsAs : (len w : ℕ) → Constraint × List ℕ → ℕ → Type 0
OperandsAs len w a n = (n + length a.1 ≡ len) × (uses a.0 ≡ w)

-- how many witnesses a kind has, as the code tells
abbrev witnesses : Kind → ℕ
witnesses kind = bool_byte (sameb the_type kind Unequal)

-- ---- the questions that come last

module _ (len w n : ℕ) (l : Constraint) (u : List ℕ) (en : n + length u ≡ len) (ew : uses l ≡ w) where
  asked : (q : Refusal) (t : Bool) → Answers (OperandsAs len w) (ask (number_of q) t >>= λ _. parsed (l, u)) (cond t (Ok n) (Err q))
  unfolding ◌>>=◌ ask
  asked q true = (en, ew)
  asked q false = refl

-- ---- each shape

same_all : (p : ℕ → Bool) (xs : List ℕ) → list_all p xs ≡ all p xs
same_all p [] = refl
same_all p (x ∷ xs) = ap (λ (t : Bool). p x && t) (same_all p xs)

module _ (cs : List ℤ) (N S : ℕ) where
  module _ (p q w : ℕ) (make : ℕ → ℕ → Constraint) (same : (x y : ℕ) → uses (make x y) ≡ w) where
    two_reads : (bs : List ℕ) → Answers (OperandsAs (length bs) w) (two cs N S p q make bs) (operands_at (p ∷ q ∷ []) bs)
    unfolding operands_at ◌>>=◌ byte
    two_reads [] = refl
    two_reads (x ∷ []) = refl
    two_reads (x ∷ y ∷ u) = rw (le-leb 2 (suc (suc (length u))) (omega arith), and-true) (asked (suc (suc (length u))) w 2 (make x y) u (omega arith) (same x y) refusals.Operand (ltb x p && ltb y q))

  module _ (make : SetVar → SetVar → SetVar → Constraint) (same : (A B C : SetVar) → uses (make A B C) ≡ 0) where
    three_reads : (bs : List ℕ) → Answers (OperandsAs (length bs) 0) (three cs N S make bs) (operands_at (S ∷ S ∷ S ∷ []) bs)
    unfolding operands_at ◌>>=◌ byte
    three_reads [] = refl
    three_reads (x ∷ []) = refl
    three_reads (x ∷ y ∷ []) = refl
    three_reads (x ∷ y ∷ z ∷ u) = rw (le-leb 3 (suc (suc (suc (length u)))) (omega arith), and-true, ← and_assoc) (asked (suc (suc (suc (length u)))) 0 3 (make (set_var x) (set_var y) (set_var z)) u (omega arith) (same (set_var x) (set_var y) (set_var z)) refusals.Operand (ltb x S && ltb y S && ltb z S))

  list_reads : (bs : List ℕ) → Answers (OperandsAs (length bs) 0) (of_list cs N S bs) (list_at N S bs)
  unfolding list_at ◌>>=◌ byte bytes
  list_reads [] = refl
  list_reads (x ∷ []) = refl
  list_reads (x ∷ n ∷ u) = go (leb n (length u)) refl
    where
      go : (t : Bool) → leb n (length u) ≡ t → Answers (OperandsAs (suc (suc (length u))) 0) (of_list cs N S (x ∷ n ∷ u)) (list_at N S (x ∷ n ∷ u))
      go true g =
          let l : n ≤ length u = leb-true n (length u) g in
          rw (le-leb 2 (suc (suc (length u))) (omega arith), le-leb (2 + n) (suc (suc (length u))) (omega arith), g, same_all)
          (asked (suc (suc (length u))) 0 (2 + n) (exactly (set_var x) (map term (take n u))) (drop n u) (omega (arith, length-drop n u)) refl refusals.Operand (ltb x S && all (λ e. ltb e N) (take n u)))
      go false g =
          let l : length u < n = leb-false n (length u) g in
          rw (le-leb 2 (suc (suc (length u))) (omega arith), lt-leb (2 + n) (suc (suc (length u))) (omega arith), g) refl

  interval_reads : (bs : List ℕ) → Answers (OperandsAs (length bs) 0) (of_interval cs N S bs) (interval_at cs N S bs)
  unfolding interval_at operands_at ◌>>=◌ byte ask
  interval_reads [] = refl
  interval_reads (x ∷ []) = refl
  interval_reads (x ∷ i ∷ []) = refl
  interval_reads (x ∷ i ∷ j ∷ u) = rw (le-leb 3 (suc (suc (suc (length u)))) (omega arith), and-true, ← and_assoc) (go (ltb x S && ltb i N && ltb j N))
    where
      go : (t : Bool) → Answers (OperandsAs (suc (suc (suc (length u)))) 0) (ask 8 t >>= λ _. ask 9 (ltb i (length cs) && ltb j (length cs) && gapless cs i j) >>= λ _. parsed (interval (set_var x) (term i) (term j) (entries (term i) (term j)), u)) (then_gapless cs (x ∷ i ∷ j ∷ u) (cond t (Ok 3) (Err refusals.Operand)))
      go true = asked (suc (suc (suc (length u)))) 0 3 (interval (set_var x) (term i) (term j) (entries (term i) (term j))) u (omega arith) refl refusals.Interval (ltb i (length cs) && ltb j (length cs) && gapless cs i j)
      go false = refl

  -- ---- the kinds

  kind_reads : (kind : Kind) (bs : List ℕ) → Answers (OperandsAs (length bs) (witnesses kind)) (get_or (kinds cs N S 0) (code_of kind) (refuse 7) bs) (kind_at kind cs N S bs)
  kind_reads Member = two_reads N S 0 _ (λ x y. refl)
  kind_reads Nonmember = two_reads N S 0 _ (λ x y. refl)
  kind_reads Same = two_reads N N 0 _ (λ x y. refl)
  kind_reads Different = two_reads N N 0 _ (λ x y. refl)
  kind_reads Equal = two_reads S S 0 _ (λ x y. refl)
  kind_reads Unequal = two_reads S S 1 _ (λ x y. refl)
  kind_reads Union = three_reads (relation union) (λ A B C. refl)
  kind_reads Disjoint = two_reads S S 0 _ (λ x y. refl)
  kind_reads Subset = two_reads S S 0 _ (λ x y. refl)
  kind_reads Intersection = three_reads (relation intersection) (λ A B C. refl)
  kind_reads Exactly = list_reads
  kind_reads Interval = interval_reads

  -- ---- a constraint

  pub no_kind : (bs : List ℕ) → length bs ≡ 0 → Scans (length bs) (constraint cs N S 0 bs) (Err refusals.CutShort)
  unfolding ◌>>=◌ byte
  no_kind [] e = refl
  no_kind (b ∷ bs) e = absurd (omega arith)

  module _ (bs : List ℕ) (b : ℕ) (rest : List ℕ) (e : bs ≡ b ∷ rest) where
    pub unknown_kind : (b ≡ 0) ⊎ (12 < b) → Scans (length bs) (constraint cs N S 0 bs) (Err refusals.Kind)
    unfolding ◌>>=◌ byte
    unknown_kind (inl z) = rw (e, z) refl
    unknown_kind (inr h) = rw (e, get_or-eq_default (kinds cs N S 0) (refuse 7) h) refl

    module _ (kind : Kind) (k : code_of kind ≡ b) where
      as_kind : get_or (kinds cs N S 0) (code_of kind) (refuse 7) rest ≡ constraint cs N S 0 bs
      unfolding ◌>>=◌ byte
      as_kind = rw (e, k) refl

      pub refused_operands : (q : Refusal) → kind_at kind cs N S rest ≡ Err q → Scans (length bs) (constraint cs N S 0 bs) (Err q)
      refused_operands q h = answer_refused (ScannedAs (length bs)) (constraint cs N S 0 bs) q (sym as_kind ∙ was_refused (OperandsAs (length rest) (witnesses kind)) _ q (rw h at (kind_reads kind rest)))

      pub few_operands : (n : ℕ) → kind_at kind cs N S rest ≡ Ok n → n ≤ length rest
      few_operands n h =
          let r = was_parsed (OperandsAs (length rest) (witnesses kind)) _ n (rw h at (kind_reads kind rest)) in
          omega (arith, r.2.0)

      pub read_operands : (n : ℕ) → kind_at kind cs N S rest ≡ Ok n → (t : Bool) → t ≡ sameb the_type kind Unequal → Scans (length bs) (constraint cs N S 0 bs) (Ok record { length = 1 + n; witnesses = bool_byte t })
      read_operands n h t w =
          let r = was_parsed (OperandsAs (length rest) (witnesses kind)) _ n (rw h at (kind_reads kind rest)) in
          answer_parsed (ScannedAs (length bs)) (constraint cs N S 0 bs) r.0 _ (sym as_kind ∙ r.1) (omega (arith, r.2.0, ap length e), ap bool_byte w ∙ sym r.2.1)
