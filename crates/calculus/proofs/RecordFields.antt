-- The fields of a record: what they are of a branch's record, and that a record is its fields. Where in a record a field stands is told here, and in specs/Forms.antt.
use mathlib.Core.Path.{◌≡◌, refl, sym, ◌∙◌, ap}
use mathlib.Core.List.{List, [], ◌∷◌}
use Prim.Native.Nat.{ℕ, zero, suc, ◌+◌, ◌*◌, ◌-◌, ◌/◌, ◌%◌, ◌<◌, ◌≤◌}
use native.Mathlib.Omega.{arith}
use native.Mathlib.Nat.{le_of_suc-le-suc}
use lib.ListN.{length, get_or, drop, get_or-eq_default}
use lib.Seq.{get_or-drop, ext_get_or}
use Rattle.calculus.specs.Limits.{term_bytes}
use Rattle.calculus.specs.Branch.{Branch, root_at}
use Rattle.calculus.specs.Forms.{record_from, record_of, record_length, root_in, inside_in, outside_in}

-- ---- how long it is

pub no_longer : (m n : ℕ) → m ≤ n → record_length m ≤ record_length n
unfolding record_length
no_longer m n l = omega arith

module _ (b : Branch) where
  from_length : (n s : ℕ) → length (record_from b s n) ≡ record_length n
  unfolding record_length
  from_length zero s = refl
  from_length (suc n) s = omega (arith, from_length n (suc s))

  pub record_is_long : (n : ℕ) → length (record_of n b) ≡ record_length n
  record_is_long n = from_length n 0

  -- ---- what it shows of term number t

  from_term : (t n s : ℕ) → t < n → drop (term_bytes * t) (record_from b s n) ≡ record_from b (s + t) (suc (n - suc t))
  from_term t zero s l = absurd (omega arith)
  from_term zero (suc n) s l =
      let e : s + 0 ≡ s = omega arith in
      let f : suc n - 1 ≡ n = omega arith in
      rw (e, f)
  from_term (suc t) (suc n) s l =
      let e : term_bytes * suc t ≡ suc (suc (suc (term_bytes * t))) = omega arith in
      let f : s + suc t ≡ suc s + t = omega arith in
      let g : suc n - suc (suc t) ≡ n - suc t = omega arith in
      rw (e, f, g) (from_term t n (suc s) (omega arith))

  byte : (n t k d : ℕ) → t < n → get_or (record_of n b) (term_bytes * t + k) d ≡ get_or (record_from b t (suc (n - suc t))) k d
  byte n t k d l = sym (get_or-drop (term_bytes * t) (record_of n b) k d) ∙ ap (λ (r : List ℕ). get_or r k d) (from_term t n 0 l ∙ ap (λ (s : ℕ). record_from b s (suc (n - suc t))) (omega arith))

  pub root_shown : (n t : ℕ) → t < n → root_in (record_of n b) t ≡ root_at b t
  unfolding root_in
  root_shown n t l = ap (λ (i : ℕ). get_or (record_of n b) i t) (omega arith) ∙ byte n t 0 t l

  pub inside_shown : (n t : ℕ) → t < n → inside_in (record_of n b) t ≡ get_or b.insides (root_at b t) 0
  unfolding inside_in
  inside_shown n t l = byte n t 1 0 l

  pub outside_shown : (n t : ℕ) → t < n → outside_in (record_of n b) t ≡ get_or b.outsides (root_at b t) 0
  unfolding outside_in
  outside_shown n t l = byte n t 2 0 l

-- ---- what it shows is all of it

any_default : (l : List ℕ) (i d e : ℕ) → i < length l → get_or l i d ≡ get_or l i e
any_default [] i d e q = absurd (omega arith)
any_default (x ∷ xs) zero d e q = refl
any_default (x ∷ xs) (suc i) d e q = any_default xs i d e (le_of_suc-le-suc q)

pub root_read : (r : List ℕ) (t : ℕ) → record_length (suc t) ≤ length r → root_in r t ≡ get_or r (term_bytes * t) 0
unfolding record_length root_in
root_read r t l = any_default r (term_bytes * t) t 0 (omega arith)

module _ (n : ℕ) (r : List ℕ) (long : length r ≡ record_length n) where
  pub root_past : (t : ℕ) → n ≤ t → root_in r t ≡ t
  unfolding record_length root_in
  root_past t l = get_or-eq_default r t {n = term_bytes * t} (omega (arith, long))

  module _ (q : List ℕ) (same_length : length q ≡ record_length n) (roots : (t : ℕ) → t < n → root_in r t ≡ root_in q t) (insides : (t : ℕ) → t < n → inside_in r t ≡ inside_in q t) (outsides : (t : ℕ) → t < n → outside_in r t ≡ outside_in q t) where
    same_byte : (t k : ℕ) → t < n → k < term_bytes → get_or r (term_bytes * t + k) 0 ≡ get_or q (term_bytes * t + k) 0
    unfolding record_length inside_in outside_in
    same_byte t zero l m =
        let e : term_bytes * t + 0 ≡ term_bytes * t = omega arith in
        rw e (sym (root_read r t (omega (arith, long))) ∙ roots t l ∙ root_read q t (omega (arith, same_length)))
    same_byte t (suc zero) l m = insides t l
    same_byte t (suc (suc zero)) l m = outsides t l
    same_byte t (suc (suc (suc k))) l m = absurd (omega arith)

    pub same_record : r ≡ q
    unfolding record_length
    same_record = ext_get_or 0 r q (long ∙ sym same_length) (λ i l.
        let s : i ≡ term_bytes * (i / term_bytes) + i % term_bytes = omega arith in
        ap (λ (k : ℕ). get_or r k 0) s ∙ same_byte (i / term_bytes) (i % term_bytes) (omega (arith, long)) (omega arith) ∙ ap (λ (k : ℕ). get_or q k 0) (sym s))
