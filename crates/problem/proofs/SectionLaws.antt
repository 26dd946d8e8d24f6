-- The laws of a section and of what its function answers. Assumes nothing.
use mathlib.Core.Path.{◌≡◌, refl, sym, ap}
use mathlib.Core.Bool.{Bool, true, false, ◌&&◌}
use mathlib.Core.List.{List, [], ◌∷◌, ◌++◌}
use Prim.Native.Nat.{ℕ, ◌*◌, ◌<◌}
use native.Mathlib.Omega.{arith}
use lib.ListN.{length, take, drop, take-append-drop, length-take}
use lib.Dec.{leb}
use borrow.Author.Tests.{leb-true, le-leb, lt-leb}
use Rattle.std.specs.Prelude.{Ok, Err, Option, Some, None}
use Rattle.std.specs.Option.{MatchOption, ok_or}
use Rattle.std.specs.List.{IsSplitAt}
use Rattle.std.specs.Borrow.{Bor}
use Rattle.calculus.specs.Reading.{Parsed, parsed, refused, ◌>>=◌, ask, byte, bytes, letters}
use Rattle.calculus.specs.Limits.{most_sets}
use Rattle.calculus.proofs.Parsers.{no_answer}
use Rattle.questions.specs.declared.refusal.Refusal.{Refusal}
use Rattle.questions.specs.declared.refusal.Refusal.TheVariants.{CutShort}
use Rattle.questions.specs.Answers.{number_of}
use Rattle.questions.proofs.Answers.{was_parsed, passed_on}
use Rattle.problem.specs.Sections.{counted, section, letters_section, sets_section, SplitAs, Splits}

abbrev pub Parts : Type 0
Parts = Bor (List ℕ) × Bor (List ℕ)

-- the bytes that follow a count, where as many are there
pub parts_counted : (size n : ℕ) (rest : List ℕ) (o : Option Parts) → MatchOption o (length rest < size * n) (λ p. IsSplitAt rest (size * n) p.0.now p.1.now) → Splits size (counted size (n ∷ rest)) (ok_or o CutShort)
unfolding counted ◌>>=◌ byte bytes
parts_counted size n rest None h = rw (lt-leb (size * n) (length rest) h) refl
parts_counted size n rest (Some p) h = rw (le-leb (size * n) (length rest) h.0) (h.3, h.1, h.2)

-- what a section that was read is: its count, its bytes and what follows
pub section_is : (size number : ℕ) (test : ℕ → List ℕ → Bool) (bs : List ℕ) (a : ℕ × List ℕ × List ℕ) → section size number test bs ≡ parsed a
    → (bs ≡ a.0 ∷ (a.1 ++ a.2)) × (length a.1 ≡ size * a.0) × (test a.0 a.1 ≡ true)
unfolding section counted byte bytes ask ◌>>=◌
section_is size number test [] a e = no_answer e
section_is size number test (n ∷ rest) a e = go (leb (size * n) (length rest)) refl
  where
    go : (t : Bool) → leb (size * n) (length rest) ≡ t → (n ∷ rest ≡ a.0 ∷ (a.1 ++ a.2)) × (length a.1 ≡ size * a.0) × (test a.0 a.1 ≡ true)
    go false q = no_answer (rw q at e)
    go true q = passed (test n (take (size * n) rest)) refl
      where
        passed : (u : Bool) → test n (take (size * n) rest) ≡ u → (n ∷ rest ≡ a.0 ∷ (a.1 ++ a.2)) × (length a.1 ≡ size * a.0) × (test a.0 a.1 ≡ true)
        passed false u = no_answer (rw (q, u) at e)
        passed true u =
            let w : (n, take (size * n) rest, drop (size * n) rest) ≡ a = cc (rw (q, u) at e) in
            rw (← w) (ap (λ (x : List ℕ). n ∷ x) (sym (take-append-drop (size * n) rest)), omega (arith, length-take (size * n) rest, leb-true (size * n) (length rest) q), u)

-- ---- a part that was found, and then a question

module _ (size number : ℕ) (test : ℕ → List ℕ → Bool) (p : Parsed (ℕ × List ℕ × List ℕ)) where
  abbrev pub asked : Parsed (ℕ × List ℕ × List ℕ)
  asked = p >>= λ a. ask number (test a.0 a.1) >>= λ _. parsed a

  pub asked_none : (q : Refusal) → Splits size p (Err q) → Splits size asked (Err q)
  asked_none q h = passed_on (SplitAs size) (SplitAs size) p _ q h

  module _ (r : Parts) (h : Splits size p (Ok r)) where
    pub asked_yes : ((n : ℕ) → length r.0.now ≡ size * n → test n r.0.now ≡ true) → Splits size asked (Ok r)
    unfolding ◌>>=◌ ask
    asked_yes t = let w = was_parsed (SplitAs size) p r h in rw (w.1, ← w.2.1, t w.0.0 w.2.0) w.2

    pub asked_no : (q : Refusal) → number_of q ≡ number → ((n : ℕ) → length r.0.now ≡ size * n → test n r.0.now ≡ false) → Splits size asked (Err q)
    unfolding ◌>>=◌ ask
    asked_no q e t = let w = was_parsed (SplitAs size) p r h in rw (w.1, ← w.2.1, t w.0.0 w.2.0) e

-- the sets are asked for their letters and then for their number
pub sets_asked : {lo hi : ℕ} → lo ≡ 65 → hi ≡ 90 → (bs : List ℕ) → sets_section bs ≡ asked 1 5 (λ n xs. leb n most_sets) (letters_section 5 lo hi bs)
unfolding section ◌>>=◌ ask
sets_asked l h bs = rw (l, h) (go (counted 1 bs))
  where
    go : (m : Parsed (ℕ × List ℕ × List ℕ)) → (m >>= λ a. ask 5 (letters 65 90 a.1 && leb a.0 most_sets) >>= λ _. parsed a)
        ≡ asked 1 5 (λ n xs. leb n most_sets) (m >>= λ a. ask 5 (letters 65 90 a.1) >>= λ _. parsed a)
    go (parsed a) = test (letters 65 90 a.1)
      where
        test : (t : Bool) → (ask 5 (t && leb a.0 most_sets) >>= λ _. parsed a) ≡ asked 1 5 (λ n xs. leb n most_sets) (ask 5 t >>= λ _. parsed a)
        test true = refl
        test false = refl
    go (refused n) = refl
