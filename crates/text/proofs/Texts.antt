-- Text written piece by piece, and how long numbers are as text.
use mathlib.Core.Path.{◌≡◌, refl, sym, ap, ◌∙◌}
use mathlib.Core.List.{List, [], ◌∷◌, ◌++◌}
use Prim.Native.Nat.{ℕ, zero, suc, ◌+◌, ◌-◌, ◌/◌, ◌%◌, ◌^◌, ◌≤◌, ◌<◌}
use native.Mathlib.Nat.{add-zero}
use native.Mathlib.Omega.{arith}
use native.Mathlib.Decide.{dec_lt}
use lib.ListN.{length, length-append}
use borrow.Author.Tests.{lt-ltb, le-ltb}
use Rattle.calculus.specs.Reading.{signed}
use Rattle.calculus.specs.Calls.{over}
use Rattle.slices.proofs.Buffers.{put_nothing, put_first, put_after}
use Rattle.std.specs.Fmt.{decimal as Std·decimal, signed_decimal as Std·signed_decimal}
use Rattle.std.specs.Int.{w16, cast_signed}
use Rattle.std.proofs.lemmas.Fmt.{decimal_by_steps, length-decimal-le}
use Rattle.text.specs.declared.Text.{Text}
use Rattle.text.specs.Text.{digits, decimal, number, Says}

-- ---- pieces

pub says_nothing : (a : Text) → Says a [] a
says_nothing a = record { buffer_is = sym (put_nothing a.buffer.now a.end); ends = sym (add-zero a.end); long = refl; same = refl }

-- right after what was written
pub says_more : {a : Text} {s : List ℕ} {b : Text} {t : List ℕ} {c : Text} → a.end ≤ length a.buffer.now → Says a s b → Says b t c → Says a (s ++ t) c
says_more {a} {s} {b} {t} l v w = record {
  buffer_is = w.buffer_is ∙ rw (v.buffer_is, v.ends) (put_after a.buffer.now a.end s t l);
  ends = omega (arith, w.ends, v.ends, length-append s t);
  long = w.long ∙ v.long;
  same = w.same ∙ v.same;
}

-- ---- decimal digits

digits_same : (f g n : ℕ) → n < f → n < g → digits f n ≡ digits g n
digits_same zero g n l m = absurd (omega arith)
digits_same (suc f) zero n l m = absurd (omega arith)
digits_same (suc f) (suc g) n l m = go (dec_lt n 10) (digits_same f g (n / 10))
  where
    go : Dec (n < 10) → (n / 10 < f → n / 10 < g → digits f (n / 10) ≡ digits g (n / 10)) → digits (suc f) n ≡ digits (suc g) n
    go (yes q) h = rw (lt-ltb n 10 q) refl
    go (no q) h = rw (le-ltb n 10 (omega arith)) (ap (λ (x : List ℕ). x ++ ((48 + n % 10) ∷ [])) (h (omega arith) (omega arith)))

pub decimal_one : (n : ℕ) → n < 10 → decimal n ≡ (48 + n % 10) ∷ []
unfolding decimal
decimal_one n l = rw (lt-ltb n 10 l) refl

pub decimal_more : (n : ℕ) → 10 ≤ n → decimal n ≡ decimal (n / 10) ++ ((48 + n % 10) ∷ [])
unfolding decimal
decimal_more n l = rw (le-ltb n 10 l) (ap (λ (x : List ℕ). x ++ ((48 + n % 10) ∷ [])) (digits_same n (suc (n / 10)) (n / 10) (omega arith) (omega arith)))

-- std's text of a number is the same
pub decimal_same : (n : ℕ) → n < 2 ^ 64 → Std·decimal n ≡ decimal n
decimal_same = decimal_by_steps (λ m ds. ds ≡ decimal m) (λ m l. let e : m % 10 ≡ m = omega arith in rw (decimal_one m l, e) refl) (λ m ds l h. rw (decimal_more m l, h) refl)

-- and of the number of a two-byte word
pub number_same : (x : ℕ) → x < 65536 → Std·signed_decimal (cast_signed w16 x) ≡ number (signed x)
number_same x l = go (dec_lt x 32768)
  where
    go : Dec (x < 32768) → Std·signed_decimal (cast_signed w16 x) ≡ number (signed x)
    go (yes q) = rw (lt-ltb x 32768 q) (decimal_same x (omega arith))
    go (no q) = let e : 65536 - suc x ≡ 65535 - x = omega arith in rw (le-ltb x 32768 (omega arith), e) (ap (λ (ds : List ℕ). 45 ∷ ds) (decimal_same (suc (65535 - x)) (omega arith)))

pub decimal_length : (k n : ℕ) → 0 < k → n < 10 ^ k → n < 2 ^ 64 → length (decimal n) ≤ k
decimal_length k n a b c = rw (← decimal_same n c) (length-decimal-le k n a b c)

pub decimal_short : (n : ℕ) → n < 100000 → length (decimal n) ≤ 5
decimal_short n l = decimal_length 5 n (omega arith) (omega arith) (omega arith)

-- ---- text at the beginning

pub says_over : {a : Text} {s : List ℕ} {b : Text} (t : List ℕ) → a.end ≡ 0 → Says a s b → t ≡ s → (b.buffer.now ≡ over t a.buffer.now) × (b.end ≡ length t)
says_over {a} {s} t z w q = rw q (w.buffer_is ∙ put_first a.buffer.now a.end s z, omega (arith, w.ends))
