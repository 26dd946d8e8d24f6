-- The questions of a constraint after its kind byte, and what a kind with a fixed number of operands is asked.
use mathlib.Core.Path.{◌≡◌, refl, ap}
use mathlib.Core.Logic.{◌↔◌}
use mathlib.Core.Bool.{Bool, true, false}
use mathlib.Core.List.{List, [], ◌∷◌, ◌++◌}
use Prim.Native.Nat.{ℕ, zero, suc, ◌<◌, ◌≤◌}
use native.Mathlib.Omega.{arith}
use lib.ListN.{length, get_or}
use lib.IntN.{ℤ, pos}
use lib.Signed.{◌≤ℤ◌}
use Rattle.calculus.specs.Meaning.{◌∈◌}
use Rattle.calculus.specs.Questions.{Sort, aCount, operands, Names, OfConstraint, no_kind, operands_missing, names_nothing, not_filled}
use Rattle.calculus.proofs.Bools.{clash}
use Rattle.calculus.proofs.Parsers.{OneByte, one}
use Rattle.calculus.proofs.QuestionsAsked.{Saying, NoByte, no_byte, Asking, answer_no, answer_yes, After, now, later}

pub untrue : (t : Bool) → ¬ (t ≡ true) → t ≡ false
untrue true h = absurd (h refl)
untrue false h = refl

-- ---- m operands, one byte each

abbrev pub Operands : ℕ → (List ℕ → Saying) → Saying
Operands zero F = F []
Operands (suc m) F = After NoByte OneByte (λ x. Operands m (λ xs. F (x ∷ xs)))

-- they are missing, or they are there
data Apart (m : ℕ) (F : List ℕ → Saying) : List ℕ → ℕ → Type 0 where
  missing : {bs : List ℕ} → length bs < m → Apart m F bs 2
  there : (xs rest : List ℕ) {n : ℕ} → length xs ≡ m → F xs rest n → Apart m F (xs ++ rest) n

apart : (m : ℕ) (F : List ℕ → Saying) (bs : List ℕ) (n : ℕ) → Operands m F bs n → Apart m F bs n
apart zero F bs n h = there [] bs refl h
apart (suc m) F bs n (now no_byte) = missing {bs = []} (omega arith)
apart (suc m) F bs n (later {v = v} (one {b = x}) h) = more v n (apart m (λ xs. F (x ∷ xs)) v n h)
  where
    more : (bs : List ℕ) (n : ℕ) → Apart m (λ xs. F (x ∷ xs)) bs n → Apart (suc m) F (x ∷ bs) n
    more bs n (missing l) = missing {bs = x ∷ bs} (omega arith)
    more bs n (there xs rest e f) = there (x ∷ xs) rest (ap suc e) f

together : (m : ℕ) (F : List ℕ → Saying) (bs : List ℕ) (n : ℕ) → Apart m F bs n → Operands m F bs n
together m F bs n (missing l) = short m F bs l
  where
    short : (m : ℕ) (F : List ℕ → Saying) (bs : List ℕ) → length bs < m → Operands m F bs 2
    short zero F bs l = absurd (omega arith)
    short (suc m) F [] l = now no_byte
    short (suc m) F (x ∷ bs) l = later (one {b = x}) (short m (λ xs. F (x ∷ xs)) bs (omega arith))
together m F bs n (there xs rest e f) = full m F xs e f
  where
    full : (m : ℕ) (F : List ℕ → Saying) (xs : List ℕ) → length xs ≡ m → F xs rest n → Operands m F (xs ++ rest) n
    full zero F [] e f = f
    full zero F (x ∷ xs) e f = absurd (omega arith)
    full (suc m) F [] e f = absurd (omega arith)
    full (suc m) F (x ∷ xs) e f = later (one {b = x}) (full m (λ xs. F (x ∷ xs)) xs (omega arith) f)

-- ---- the questions after a kind byte

module _ (cs : List ℤ) (N S : ℕ) where
  -- each of the operands xs of kind k names what the kind wants
  abbrev pub AllName : ℕ → List ℕ → Type 0
  AllName k xs = (p : ℕ) → p < length xs → Names cs N S (get_or (operands k xs) p aCount) (get_or xs p 0)

  -- from constant i to constant j every whole number is a constant
  abbrev pub Filled : ℕ → ℕ → Type 0
  Filled i j = (i < length cs) × (j < length cs) × ((x : ℤ) → get_or cs i (pos 0) ≤ℤ x → x ≤ℤ get_or cs j (pos 0) → x ∈ cs)

  -- of the bytes after kind k
  abbrev pub At : ℕ → Saying
  At k rest n = OfConstraint cs N S (k ∷ rest) n

  pub data Case (k : ℕ) (rest : List ℕ) : ℕ → Type 0 where
    case_7 : ¬ ((1 ≤ k) × (k ≤ 12)) → Case k rest 7
    case_2 : length rest < length (operands k rest) → Case k rest 2
    case_8 : (xs more : List ℕ) → rest ≡ xs ++ more → length xs ≡ length (operands k xs) → ¬ AllName k xs → Case k rest 8
    case_9 : (A i j : ℕ) (more : List ℕ) → k ≡ 12 → rest ≡ A ∷ i ∷ j ∷ more → A < S → i < N → j < N → ¬ Filled i j → Case k rest 9

  pub case : (k : ℕ) (rest : List ℕ) (n : ℕ) → At k rest n → Case k rest n
  case k rest n (no_kind j bs h) = case_7 h
  case k rest n (operands_missing j bs h) = case_2 h
  case k rest n (names_nothing j xs more e h) = case_8 xs more refl e h
  case k rest n (not_filled A i j more a b c h) = case_9 A i j more refl refl a b c h

  -- a kind with a fixed number of operands, by the test of question 8 and what is asked after it
  module _ (k : ℕ) (kind : (1 ≤ k) × (k ≤ 12)) (ss : List Sort) (shape : (bs : List ℕ) → operands k bs ≡ ss) (test : List ℕ → Bool) (Rest : List ℕ → Saying) where
    abbrev pub Fixed : Saying
    Fixed = Operands (length ss) (λ xs. Asking 8 (λ _. test xs) (Rest xs))

    -- the test is right, and so is what is asked after it
    pub record Right : Type 0 where
      pub tested : (xs : List ℕ) → length xs ≡ length ss → (test xs ≡ true) ↔ ((p : ℕ) → p < length xs → Names cs N S (get_or ss p aCount) (get_or xs p 0))
      pub goes_on : (xs rest : List ℕ) (n : ℕ) → length xs ≡ length ss → test xs ≡ true → Rest xs rest n → At k (xs ++ rest) n
      pub came_from : (A i j : ℕ) (rest : List ℕ) → k ≡ 12 → A < S → i < N → j < N → ¬ Filled i j → Fixed (A ∷ i ∷ j ∷ rest) 9

    pub fixed_at : Right → (rest : List ℕ) (n : ℕ) → Fixed rest n → At k rest n
    fixed_at R rest n h = go rest n (apart (length ss) _ rest n h)
      where
        go : (rest : List ℕ) (n : ℕ) → Apart (length ss) (λ xs. Asking 8 (λ _. test xs) (Rest xs)) rest n → At k rest n
        go rest n (missing l) = operands_missing k rest (rw (shape rest) l)
        go rest n (there xs more e (answer_no q)) = names_nothing k xs more (rw (shape xs) e) (λ h. clash ((R.tested xs e).1 (rw (shape xs) at h)) q)
        go rest n (there xs more e (answer_yes q h)) = R.goes_on xs more n e q h

    pub at_fixed : Right → (rest : List ℕ) (n : ℕ) → At k rest n → Fixed rest n
    at_fixed R rest n h = go n (case k rest n h)
      where
        go : (n : ℕ) → Case k rest n → Fixed rest n
        go n (case_7 h) = absurd (h kind)
        go n (case_2 h) = together (length ss) _ rest 2 (missing (rw (shape rest) at h))
        go n (case_8 xs more q e h) =
            let e' : length xs ≡ length ss = rw (shape xs) at e in
            rw q (together (length ss) _ (xs ++ more) 8 (there xs more e' (answer_no (untrue (test xs) (λ t. h (rw (shape xs) ((R.tested xs e').0 t)))))))
        go n (case_9 A i j more z q a b c h) = rw q (R.came_from A i j more z a b c h)
