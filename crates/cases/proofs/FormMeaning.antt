-- What a record states beyond the problem's constraints: assignments that satisfy a problem and one of its records, but not the other. Then solutions with large numbers, and lists that have not the shape of a record.
use mathlib.Core.Path.{◌≡◌, refl, sym, ◌∙◌, ap}
use mathlib.Core.Logic.{◌⊎◌, inl, inr}
use mathlib.Core.Bool.{true, false, false≢true}
use mathlib.Core.List.{List, [], ◌∷◌}
use Prim.Native.Nat.{ℕ, zero, suc, ◌/◌, ◌<◌}
use native.Mathlib.Omega.{arith}
use lib.IntN.{ℤ, pos, negsuc}
use lib.ListN.{get_or}
use Rattle.calculus.specs.Lists.{bit}
use Rattle.calculus.specs.Terms.{Term, term, SetVar, set_var}
use Rattle.calculus.specs.Relations.{union}
use Rattle.calculus.specs.Meaning.{◌∈◌, Valuation, member, exactly, relation}
use Rattle.calculus.specs.Problem.{Problem, Assignment, Satisfies}
use Rattle.calculus.specs.Reading.{parsed, ◌>>=◌, ask, byte, bytes, read_constraints, read_sets, read_variables, read_constants, read, eq_z}
use Rattle.calculus.specs.Forms.{record_length, root_in, inside_in, outside_in, Agrees, SatisfiesForm}
use Rattle.calculus.specs.Demands.{Shape}
use Rattle.calculus.proofs.Masks.{bit_zero}

-- the numbers of the variables and the members of the sets, in order
abbrev assigned : List ℤ → List (List ℤ) → Assignment
assigned ns ss = record { number = λ i. get_or ns i (pos 0); members = λ A. get_or ss A.index [] }

-- there are no witnesses
abbrev unwitnessed : Term → ℤ
unwitnessed _ = pos 0

-- The assignment satisfies the problem. It does not satisfy the refusing record, but does without one merge or fact of it, and satisfies the taking one.
pub record Parted (prob : Problem) (g : Assignment) (refusing without taking : List ℕ) : Type 0 where
  pub satisfies : Satisfies prob g
  pub refuses : ¬ SatisfiesForm prob g refusing
  pub but_for : SatisfiesForm prob g without
  pub takes : SatisfiesForm prob g taking

-- ---- masks, and records of one term and of three

no : {P : Type 0} → false ≡ true → P
no e = absurd (false≢true e)

-- no bit of a mask 0
none : {P : Type 0} (s : ℕ) → bit 0 s ≡ true → P
none s b = no (sym (bit_zero s) ∙ b)

-- what holds of each bit that a mask below 8 has
masked : (m : ℕ) (P : ℕ → Type 0) → (bit m 0 ≡ true → P 0) → (bit m 1 ≡ true → P 1) → (bit m 2 ≡ true → P 2) → m / 2 / 2 / 2 ≡ 0 → (s : ℕ) → bit m s ≡ true → P s
masked m P p q r e zero b = p b
masked m P p q r e (suc zero) b = q b
masked m P p q r e (suc (suc zero)) b = r b
masked m P p q r e (suc (suc (suc s))) b = none s (ap (λ (n : ℕ). bit n s) (sym e) ∙ b)

-- a term that is its own root
one : (v : Valuation) (m o : ℕ) → ((A : ℕ) → bit m A ≡ true → v.num (term 0) ∈ v.members (set_var A)) → ((A : ℕ) → bit o A ≡ true → ¬ (v.num (term 0) ∈ v.members (set_var A))) → Agrees 1 v (0 ∷ m ∷ o ∷ [])
unfolding root_in inside_in outside_in
one v m o p q = record { merges = merged; insides = ins; outsides = outs }
  where
    merged : (t : ℕ) → t < 1 → v.num (term t) ≡ v.num (term (root_in (0 ∷ m ∷ o ∷ []) t))
    merged zero h = refl
    merged (suc t) h = absurd (omega arith)

    ins : (t : ℕ) (A : SetVar) → t < 1 → bit (inside_in (0 ∷ m ∷ o ∷ []) t) A.index ≡ true → v.num (term t) ∈ v.members A
    ins zero A h b = p A.index b
    ins (suc t) A h b = absurd (omega arith)

    outs : (t : ℕ) (A : SetVar) → t < 1 → bit (outside_in (0 ∷ m ∷ o ∷ []) t) A.index ≡ true → ¬ (v.num (term t) ∈ v.members A)
    outs zero A h b = q A.index b
    outs (suc t) A h b = absurd (omega arith)

-- three terms that are in set 0, with their roots
three : (v : Valuation) (i j k : ℕ) → v.num (term 0) ≡ v.num (term i) → v.num (term 1) ≡ v.num (term j) → v.num (term 2) ≡ v.num (term k)
    → v.num (term 0) ∈ v.members (set_var 0) → v.num (term 1) ∈ v.members (set_var 0) → v.num (term 2) ∈ v.members (set_var 0)
    → Agrees 3 v (i ∷ 1 ∷ 0 ∷ j ∷ 1 ∷ 0 ∷ k ∷ 1 ∷ 0 ∷ [])
unfolding root_in inside_in outside_in
three v i j k e f g p q r = record { merges = merged; insides = ins; outsides = outs }
  where
    merged : (t : ℕ) → t < 3 → v.num (term t) ≡ v.num (term (root_in (i ∷ 1 ∷ 0 ∷ j ∷ 1 ∷ 0 ∷ k ∷ 1 ∷ 0 ∷ []) t))
    merged zero h = e
    merged (suc zero) h = f
    merged (suc (suc zero)) h = g
    merged (suc (suc (suc t))) h = absurd (omega arith)

    first : (t : ℕ) → v.num (term t) ∈ v.members (set_var 0) → (A : SetVar) → bit 1 A.index ≡ true → v.num (term t) ∈ v.members A
    first t m A b = masked 1 (λ s. v.num (term t) ∈ v.members (set_var s)) (λ _. m) no no refl A.index b

    ins : (t : ℕ) (A : SetVar) → t < 3 → bit (inside_in (i ∷ 1 ∷ 0 ∷ j ∷ 1 ∷ 0 ∷ k ∷ 1 ∷ 0 ∷ []) t) A.index ≡ true → v.num (term t) ∈ v.members A
    ins zero A h b = first 0 p A b
    ins (suc zero) A h b = first 1 q A b
    ins (suc (suc zero)) A h b = first 2 r A b
    ins (suc (suc (suc t))) A h b = absurd (omega arith)

    outs : (t : ℕ) (A : SetVar) → t < 3 → bit (outside_in (i ∷ 1 ∷ 0 ∷ j ∷ 1 ∷ 0 ∷ k ∷ 1 ∷ 0 ∷ []) t) A.index ≡ true → ¬ (v.num (term t) ∈ v.members A)
    outs zero A h b = none A.index b
    outs (suc zero) A h b = none A.index b
    outs (suc (suc zero)) A h b = none A.index b
    outs (suc (suc (suc t))) A h b = absurd (omega arith)

-- ---- C10: C = A ∪ B, x in C. Its records say that x is in A and C; and that x is in B and C and out of A (Document has its run)

abbrev c10 : Problem
c10 = record { constants = []; variables = 120 ∷ []; sets = 65 ∷ 66 ∷ 67 ∷ []; witnesses = 0; constraints = relation union (set_var 0) (set_var 1) (set_var 2) ∷ member (term 0) (set_var 2) ∷ [] }

c10_read : read (0x00 ∷ 0x01 ∷ 0x78 ∷ 0x03 ∷ 0x41 ∷ 0x42 ∷ 0x43 ∷ 0x02 ∷ 0x07 ∷ 0x00 ∷ 0x01 ∷ 0x02 ∷ 0x01 ∷ 0x00 ∷ 0x02 ∷ []) ≡ parsed c10
unfolding ◌>>=◌ ask byte bytes read_constraints read_sets read_variables read_constants read
c10_read = refl

-- x = 1, A = {}, B = {1}, C = {1}
abbrev in_b : Assignment
in_b = assigned (pos 1 ∷ []) ([] ∷ (pos 1 ∷ []) ∷ (pos 1 ∷ []) ∷ [])

in_b_holds : Satisfies c10 in_b
in_b_holds = (λ x. (λ c. inr c, later), (inl refl, tt))
  where
    later : {P : Type 0} → ⊥ ⊎ P → P
    later (inl p) = absurd p
    later (inr p) = p

-- x is not in A: it satisfies the second record, not the first
pub not_inside : Parted c10 in_b (0 ∷ 5 ∷ 0 ∷ []) (0 ∷ 4 ∷ 0 ∷ []) (0 ∷ 6 ∷ 1 ∷ [])
unfolding inside_in
not_inside = record {
  satisfies = in_b_holds;
  refuses = λ s. s.1.insides 0 (set_var 0) (omega arith) refl;
  but_for = (unwitnessed, one _ 4 0 (masked 4 (λ A. pos 1 ∈ in_b.members (set_var A)) no no (λ _. inl refl) refl) (λ A b. none A b), in_b_holds);
  takes = (unwitnessed, one _ 6 1 (masked 6 (λ A. pos 1 ∈ in_b.members (set_var A)) no (λ _. inl refl) (λ _. inl refl) refl) (masked 1 (λ A. ¬ (pos 1 ∈ in_b.members (set_var A))) (λ _ m. m) no no refl), in_b_holds);
}

-- x = 1, A = {1}, B = {1}, C = {1}
abbrev in_both : Assignment
in_both = assigned (pos 1 ∷ []) ((pos 1 ∷ []) ∷ (pos 1 ∷ []) ∷ (pos 1 ∷ []) ∷ [])

in_both_holds : Satisfies c10 in_both
in_both_holds = (λ x. (λ c. inl c, either), (inl refl, tt))
  where
    either : {P : Type 0} → P ⊎ P → P
    either (inl p) = p
    either (inr p) = p

-- x is not out of A: it satisfies the first record, not the second
pub not_outside : Parted c10 in_both (0 ∷ 6 ∷ 1 ∷ []) (0 ∷ 6 ∷ 0 ∷ []) (0 ∷ 5 ∷ 0 ∷ [])
unfolding outside_in
not_outside = record {
  satisfies = in_both_holds;
  refuses = λ s. s.1.outsides 0 (set_var 0) (omega arith) refl (inl refl);
  but_for = (unwitnessed, one _ 6 0 (masked 6 (λ A. pos 1 ∈ in_both.members (set_var A)) no (λ _. inl refl) (λ _. inl refl) refl) (λ A b. none A b), in_both_holds);
  takes = (unwitnessed, one _ 5 0 (masked 5 (λ A. pos 1 ∈ in_both.members (set_var A)) (λ _. inl refl) no (λ _. inl refl) refl) (λ A b. none A b), in_both_holds);
}

-- ---- z in A, A = {y, x}. Its records merge z with y, and z with x (Order has its run)

abbrev y_or_x : Problem
y_or_x = record { constants = []; variables = 120 ∷ 121 ∷ 122 ∷ []; sets = 65 ∷ []; witnesses = 0; constraints = member (term 2) (set_var 0) ∷ exactly (set_var 0) (term 1 ∷ term 0 ∷ []) ∷ [] }

y_or_x_read : read (0 ∷ 3 ∷ 120 ∷ 121 ∷ 122 ∷ 1 ∷ 65 ∷ 2 ∷ 1 ∷ 2 ∷ 0 ∷ 11 ∷ 0 ∷ 2 ∷ 1 ∷ 0 ∷ []) ≡ parsed y_or_x
unfolding ◌>>=◌ ask byte bytes read_constraints read_sets read_variables read_constants read
y_or_x_read = refl

-- x = 2, y = 1, z = 2, A = {1, 2}
abbrev as_x : Assignment
as_x = assigned (pos 2 ∷ pos 1 ∷ pos 2 ∷ []) ((pos 1 ∷ pos 2 ∷ []) ∷ [])

as_x_holds : Satisfies y_or_x as_x
as_x_holds = (inr (inl refl), ((λ x. (λ m. m, λ m. m)), tt))

-- z has not y's value: it satisfies the second record, not the first
pub not_merged : Parted y_or_x as_x (0 ∷ 1 ∷ 0 ∷ 1 ∷ 1 ∷ 0 ∷ 1 ∷ 1 ∷ 0 ∷ []) (0 ∷ 1 ∷ 0 ∷ 1 ∷ 1 ∷ 0 ∷ 2 ∷ 1 ∷ 0 ∷ []) (0 ∷ 1 ∷ 0 ∷ 1 ∷ 1 ∷ 0 ∷ 0 ∷ 1 ∷ 0 ∷ [])
unfolding root_in
not_merged = record {
  satisfies = as_x_holds;
  refuses = λ s. false≢true (ap (λ (x : ℤ). eq_z x (pos 1)) (s.1.merges 2 (omega arith)));
  but_for = (unwitnessed, three _ 0 1 2 refl refl refl (inr (inl refl)) (inl refl) (inr (inl refl)), as_x_holds);
  takes = (unwitnessed, three _ 0 1 0 refl refl refl (inr (inl refl)) (inl refl) (inr (inl refl)), as_x_holds);
}

-- ---- numbers of any size: x in A

abbrev x_in_a : Problem
x_in_a = record { constants = []; variables = 120 ∷ []; sets = 65 ∷ []; witnesses = 0; constraints = member (term 0) (set_var 0) ∷ [] }

-- x = 100,000 and x = −100,000, A = {x}
pub any_number : Satisfies x_in_a (assigned (pos 100000 ∷ []) ((pos 100000 ∷ []) ∷ [])) × Satisfies x_in_a (assigned (negsuc 99999 ∷ []) ((negsuc 99999 ∷ []) ∷ []))
any_number = ((inl refl, tt), (inl refl, tt))

-- ---- what is no record's shape: of constants 3 and 4 and a variable x, with sets A and B

abbrev shaped : Problem
shaped = record { constants = pos 3 ∷ pos 4 ∷ []; variables = 120 ∷ []; sets = 65 ∷ 66 ∷ []; witnesses = 0; constraints = [] }

-- a byte too few; a root that is not the lowest; a root that is no term; two constants with one root; masks that are not the root's; a third set; in and out of B. And of three variables: a root that is not its own
pub no_shape : (¬ Shape shaped (0 ∷ 0 ∷ 0 ∷ 1 ∷ 0 ∷ 0 ∷ 2 ∷ 0 ∷ [])) × (¬ Shape shaped (2 ∷ 0 ∷ 0 ∷ 1 ∷ 0 ∷ 0 ∷ 2 ∷ 0 ∷ 0 ∷ [])) × (¬ Shape shaped (0 ∷ 0 ∷ 0 ∷ 1 ∷ 0 ∷ 0 ∷ 3 ∷ 0 ∷ 0 ∷ []))
    × (¬ Shape shaped (0 ∷ 0 ∷ 0 ∷ 0 ∷ 0 ∷ 0 ∷ 2 ∷ 0 ∷ 0 ∷ [])) × (¬ Shape shaped (0 ∷ 1 ∷ 0 ∷ 1 ∷ 0 ∷ 0 ∷ 0 ∷ 0 ∷ 0 ∷ [])) × (¬ Shape shaped (0 ∷ 4 ∷ 0 ∷ 1 ∷ 0 ∷ 0 ∷ 2 ∷ 0 ∷ 0 ∷ []))
    × (¬ Shape shaped (0 ∷ 2 ∷ 2 ∷ 1 ∷ 0 ∷ 0 ∷ 2 ∷ 0 ∷ 0 ∷ [])) × (¬ Shape y_or_x (0 ∷ 0 ∷ 0 ∷ 0 ∷ 0 ∷ 0 ∷ 1 ∷ 0 ∷ 0 ∷ []))
unfolding record_length root_in inside_in outside_in
no_shape = (
  (λ s. omega (arith, s.long)),
  (λ s. omega (arith, s.lowest 0 0 (omega arith) (omega arith) refl)),
  (λ s. omega (arith, s.lowest 2 2 (omega arith) (omega arith) refl)),
  (λ s. omega (arith, s.constants 0 1 (omega arith) (omega arith) refl)),
  (λ s. omega (arith, (s.shows 2 (omega arith)).0)),
  (λ s. omega (arith, (s.masks 0 (omega arith)).0)),
  (λ s. s.clear 0 1 (omega arith) refl refl),
  (λ s. omega (arith, s.own 2 (omega arith))),
)
