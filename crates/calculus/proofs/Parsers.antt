-- A parser recognizes what is written in a given way: it reads just that, refuses it with 2 where it is cut short, and passes on what follows.
use mathlib.Core.Path.{◌≡◌, refl, sym, ◌∙◌, ap, subst}
use mathlib.Core.Logic.{◌⊎◌, inl, inr}
use mathlib.Core.Bool.{Bool, true, false, false≢true}
use mathlib.Core.List.{List, [], ◌∷◌, ◌++◌, append_assoc}
use Prim.Native.Nat.{ℕ, zero, suc, ◌+◌, ◌-◌, ◌<◌, ◌≤◌}
use native.Mathlib.Omega.{arith}
use native.Mathlib.Decide.{dec_lt}
use lib.ListN.{length, take, drop, take-append-drop, length-take, length-append}
use lib.Seq.{take-append_seam, drop-append_seam, take-append-le, take-append-add}
use lib.Dec.{leb}
use borrow.Author.Tests.{leb-true, le-leb, lt-leb}
use Rattle.calculus.proofs.Parsing.{bind_parsed}
use Rattle.calculus.specs.Reading.{Parsed, parsed, refused, ◌>>=◌, ask, byte, bytes}

-- ---- what an answer came from

pub no_answer : {A : Type 0} {n : ℕ} {c : A} {X : Type 0} → ◌≡◌ {A = Parsed A} (refused n) (parsed c) → X
no_answer e = let w : false ≡ true = cc in absurd (false≢true w)

pub no_refusal : {A : Type 0} {n : ℕ} {c : A} {X : Type 0} → ◌≡◌ {A = Parsed A} (parsed c) (refused n) → X
no_refusal e = let w : false ≡ true = cc in absurd (false≢true w)

module _ {A B : Type 0} where
  pub stopped : (m : Parsed A) (f : A → Parsed B) (n : ℕ) → (m >>= f) ≡ refused n → (m ≡ refused n) ⊎ ((a : A) × (m ≡ parsed a) × (f a ≡ refused n))
  unfolding ◌>>=◌
  stopped (parsed a) f n e = inr (a, refl, e)
  stopped (refused m) f n e = let w : m ≡ n = cc in inl (ap refused w)

-- ---- what is recognized

-- `out a rest` is the answer where a is written and rest follows; W is how a is written
pub record Recognizes {A B : Type 0} (out : A → List ℕ → Parsed B) (W : A → List ℕ → Type 0) (p : List ℕ → Parsed B) : Type 0 where
  pub reads : (a : A) (u rest : List ℕ) → W a u → p (u ++ rest) ≡ out a rest
  pub wrote : (bs : List ℕ) (c : B) → p bs ≡ parsed c → (a : A) × (u rest : List ℕ) × (bs ≡ u ++ rest) × (out a rest ≡ parsed c) × W a u
  pub cut : (a : A) (u : List ℕ) (k : ℕ) → W a u → k < length u → p (take k u) ≡ refused 2
  pub numbers : (bs : List ℕ) (n : ℕ) → p bs ≡ refused n → (2 ≤ n) × (n ≤ 11)

-- the usual answer: the value and what follows
abbrev pub pair : {A : Type 0} → A → List ℕ → Parsed (A × List ℕ)
pair a rest = parsed (a, rest)

-- how things are written: one byte, n bytes, nothing, where a test passes, one after another
pub data OneByte : ℕ → List ℕ → Type 0 where
  one : {b : ℕ} → OneByte b (b ∷ [])

pub data Counted (n : ℕ) : List ℕ → List ℕ → Type 0 where
  counted : {xs : List ℕ} → length xs ≡ n → Counted n xs xs

pub data Given {A : Type 0} (a : A) : A → List ℕ → Type 0 where
  given : Given a a []

pub data Asked {A : Type 0} (t : Bool) (W : A → List ℕ → Type 0) : A → List ℕ → Type 0 where
  answered : {a : A} {u : List ℕ} → t ≡ true → W a u → Asked t W a u

pub data Then {A B : Type 0} (W : A → List ℕ → Type 0) (U : A → B → List ℕ → Type 0) : B → List ℕ → Type 0 where
  then : {a : A} {b : B} {u v : List ℕ} → W a u → U a b v → Then W U b (u ++ v)

-- ---- the parsers

pub byte_reads : Recognizes pair OneByte byte
unfolding byte
byte_reads = record { reads = reads; wrote = wrote; cut = cut; numbers = numbers }
  where
    reads : (b : ℕ) (u rest : List ℕ) → OneByte b u → byte (u ++ rest) ≡ parsed (b, rest)
    reads b u rest one = refl

    wrote : (bs : List ℕ) (c : ℕ × List ℕ) → byte bs ≡ parsed c → (b : ℕ) × (u rest : List ℕ) × (bs ≡ u ++ rest) × (pair b rest ≡ parsed c) × OneByte b u
    wrote [] c e = no_answer e
    wrote (b ∷ bs) c e = (b, b ∷ [], bs, refl, e, one)

    cut : (b : ℕ) (u : List ℕ) (k : ℕ) → OneByte b u → k < length u → byte (take k u) ≡ refused 2
    cut b u zero one l = refl
    cut b u (suc k) one l = absurd (omega arith)

    numbers : (bs : List ℕ) (n : ℕ) → byte bs ≡ refused n → (2 ≤ n) × (n ≤ 11)
    numbers [] n e = let z : 2 ≡ n = cc in (omega arith, omega arith)
    numbers (b ∷ bs) n e = no_refusal e

pub bytes_read : (n : ℕ) → Recognizes pair (Counted n) (bytes n)
unfolding bytes
bytes_read n = record { reads = reads; wrote = λ bs c. wrote bs c (leb n (length bs)) refl; cut = cut; numbers = λ bs m. numbers bs m (leb n (length bs)) refl }
  where
    reads : (xs u rest : List ℕ) → Counted n xs u → bytes n (u ++ rest) ≡ parsed (xs, rest)
    reads xs u rest (counted e) = rw (← e, le-leb (length xs) (length (xs ++ rest)) (omega (arith, length-append xs rest)), take-append_seam xs rest, drop-append_seam xs rest)

    wrote : (bs : List ℕ) (c : List ℕ × List ℕ) (t : Bool) → leb n (length bs) ≡ t → bytes n bs ≡ parsed c → (xs : List ℕ) × (u rest : List ℕ) × (bs ≡ u ++ rest) × (pair xs rest ≡ parsed c) × Counted n xs u
    wrote bs c true q e = (take n bs, take n bs, drop n bs, sym (take-append-drop n bs), rw q at e, counted {xs = take n bs} (omega (arith, length-take n bs, leb-true n (length bs) q)))
    wrote bs c false q e = no_answer (rw q at e)

    cut : (xs u : List ℕ) (k : ℕ) → Counted n xs u → k < length u → bytes n (take k u) ≡ refused 2
    cut xs u k (counted e) l = rw (lt-leb n (length (take k xs)) (omega (arith, length-take k xs)))

    numbers : (bs : List ℕ) (m : ℕ) (t : Bool) → leb n (length bs) ≡ t → bytes n bs ≡ refused m → (2 ≤ m) × (m ≤ 11)
    numbers bs m true q e = no_refusal (rw q at e)
    numbers bs m false q e = let r = rw q at e in let z : 2 ≡ m = cc in (omega arith, omega arith)

-- what holds of a given value, and of no bytes, holds of what is written so
pub at_given : {A : Type 0} {a c : A} {u : List ℕ} (P : A → List ℕ → Type 0) → Given a c u → P a [] → P c u
at_given P given h = h

-- a value that is there without any bytes
pub gives : {A X : Type 0} {pack : A → List ℕ → X} (a : A) → Recognizes (λ c r. parsed (pack c r)) (Given a) (λ bs. parsed (pack a bs))
gives {A} {X} {pack} a = record { reads = reads; wrote = λ bs c e. (a, [], bs, refl, e, given); cut = cut; numbers = λ bs n e. no_refusal e }
  where
    reads : (c : A) (u rest : List ℕ) → Given a c u → ◌≡◌ {A = Parsed X} (parsed (pack a (u ++ rest))) (parsed (pack c rest))
    reads c u rest given = refl

    cut : (c : A) (u : List ℕ) (k : ℕ) → Given a c u → k < length u → ◌≡◌ {A = Parsed X} (parsed (pack a (take k u))) (refused 2)
    cut c u k given l = absurd (omega arith)

module _ {A B : Type 0} {out : A → List ℕ → Parsed B} {W : A → List ℕ → Type 0} {p : List ℕ → Parsed B} where
  -- a question: what follows it may rest on the answer
  pub asks : (n : ℕ) (t : Bool) → (2 ≤ n) × (n ≤ 11) → (t ≡ true → Recognizes out W p) → Recognizes out (Asked t W) (λ bs. ask n t >>= λ _. p bs)
  unfolding ◌>>=◌ ask
  asks n t small P = record { reads = reads; wrote = wrote t refl; cut = cut; numbers = numbers t refl }
    where
      reads : (a : A) (u rest : List ℕ) → Asked t W a u → (ask n t >>= λ _. p (u ++ rest)) ≡ out a rest
      reads a u rest (answered e w) = rw e ((P e).reads a u rest w)

      wrote : (s : Bool) → t ≡ s → (bs : List ℕ) (c : B) → (ask n s >>= λ _. p bs) ≡ parsed c → (a : A) × (u rest : List ℕ) × (bs ≡ u ++ rest) × (out a rest ≡ parsed c) × Asked t W a u
      wrote true q bs c e = let r = (P q).wrote bs c e in (r.0, r.1, r.2, r.3, r.4, answered q r.5)
      wrote false q bs c e = no_answer e

      cut : (a : A) (u : List ℕ) (k : ℕ) → Asked t W a u → k < length u → (ask n t >>= λ _. p (take k u)) ≡ refused 2
      cut a u k (answered e w) l = rw e ((P e).cut a u k w l)

      numbers : (s : Bool) → t ≡ s → (bs : List ℕ) (m : ℕ) → (ask n s >>= λ _. p bs) ≡ refused m → (2 ≤ m) × (m ≤ 11)
      numbers true q bs m e = (P q).numbers bs m e
      numbers false q bs m e = let z : n ≡ m = cc in subst (λ (x : ℕ). (2 ≤ x) × (x ≤ 11)) z small

  -- another way to say how it is written
  pub same_writing : (U : A → List ℕ → Type 0) → ((a : A) (u : List ℕ) → W a u → U a u) → ((a : A) (u : List ℕ) → U a u → W a u) → Recognizes out W p → Recognizes out U p
  same_writing U f g P = record {
    reads = λ a u rest w. P.reads a u rest (g a u w);
    wrote = λ bs c e. let r = P.wrote bs c e in (r.0, r.1, r.2, r.3, r.4, f r.0 r.1 r.5);
    cut = λ a u k w l. P.cut a u k (g a u w) l;
    numbers = P.numbers;
  }

-- one thing after another
module _ {A B C X : Type 0} {pack : A → List ℕ → X} {out : B → List ℕ → Parsed C} {W : A → List ℕ → Type 0} {U : A → B → List ℕ → Type 0} {p : List ℕ → Parsed X} (k : X → Parsed C) where
  pub and_then : Recognizes (λ a r. parsed (pack a r)) W p → ((a : A) → Recognizes out (U a) (λ r. k (pack a r))) → Recognizes out (Then W U) (λ bs. p bs >>= k)
  unfolding ◌>>=◌
  and_then P F = record { reads = reads; wrote = wrote; cut = cut; numbers = numbers }
    where
      reads : (b : B) (w rest : List ℕ) → Then W U b w → (p (w ++ rest) >>= k) ≡ out b rest
      reads b w rest (then {a = a} {u = u} {v = v} x y) = rw (append_assoc u v rest, P.reads a u (v ++ rest) x) ((F a).reads b v rest y)

      wrote : (bs : List ℕ) (c : C) → (p bs >>= k) ≡ parsed c → (b : B) × (u rest : List ℕ) × (bs ≡ u ++ rest) × (out b rest ≡ parsed c) × Then W U b u
      wrote bs c e =
          let m = bind_parsed (p bs) k c e in
          let x = P.wrote bs m.0 m.1 in
          let q : pack x.0 x.2 ≡ m.0 = cc x.4 in
          let y = (F x.0).wrote x.2 c (rw q m.2) in
          (y.0, x.1 ++ y.1, y.2, x.3 ∙ (ap (λ (z : List ℕ). x.1 ++ z) y.3 ∙ sym (append_assoc x.1 y.1 y.2)), y.4, then x.5 y.5)

      cut : (b : B) (w : List ℕ) (j : ℕ) → Then W U b w → j < length w → (p (take j w) >>= k) ≡ refused 2
      cut b w j (then {a = a} {u = u} {v = v} x y) l = go (dec_lt j (length u))
        where
          go : Dec (j < length u) → (p (take j (u ++ v)) >>= k) ≡ refused 2
          go (yes s) = rw (take-append-le j u v (omega arith), P.cut a u j x s)
          go (no s) =
              let z : j ≡ length u + (j - length u) = omega arith in
              let e : take j (u ++ v) ≡ u ++ take (j - length u) v = ap (λ (i : ℕ). take i (u ++ v)) z ∙ take-append-add u v (j - length u) in
              rw (e, P.reads a u (take (j - length u) v) x) ((F a).cut b v (j - length u) y (omega (arith, length-append u v)))

      numbers : (bs : List ℕ) (n : ℕ) → (p bs >>= k) ≡ refused n → (2 ≤ n) × (n ≤ 11)
      numbers bs n e = go (stopped (p bs) k n e)
        where
          go : (p bs ≡ refused n) ⊎ ((x : X) × (p bs ≡ parsed x) × (k x ≡ refused n)) → (2 ≤ n) × (n ≤ 11)
          go (inl q) = P.numbers bs n q
          go (inr q) =
              let x = P.wrote bs q.0 q.1 in
              let z : pack x.0 x.2 ≡ q.0 = cc x.4 in
              (F x.0).numbers x.2 n (rw z q.2)
