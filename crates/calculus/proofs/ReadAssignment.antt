-- An assignment is read exactly where it is written as document 01 says, and the only refusal is 14.
use mathlib.Core.Path.{◌≡◌, refl, sym, ◌∙◌, ap, ap₂, subst}
use mathlib.Core.Bool.{Bool, true, false, cond, false≢true}
use mathlib.Core.List.{List, [], ◌∷◌, ◌++◌, append_assoc, append-nil}
use Prim.Native.Nat.{ℕ, zero, suc, ◌*◌, ◌<◌}
use native.Mathlib.Omega.{arith}
use lib.ListN.{length, take, drop, length-append, take-append-drop}
use lib.Seq.{length-take-le}
use lib.Dec.{leb}
use lib.IntN.{ℤ}
use borrow.Author.Tests.{leb-true, le-leb, eqb-true, eq-eqb}
use Rattle.calculus.specs.Lists.{Each, gather}
use Rattle.calculus.specs.Problem.{Problem, set_count, Rising}
use Rattle.calculus.specs.Reading.{Parsed, parsed, refused, words}
use Rattle.calculus.specs.Encoding.{Bytes, two_bytes, Fits16, Handed, WrittenAssignment}
use Rattle.calculus.specs.Check.{count, numbers, member_lists, read_assignment}
use Rattle.calculus.specs.Demands.{ReadsAssignment}
use Rattle.calculus.proofs.Bools.{each_left, each_right}
use Rattle.calculus.proofs.Words.{words_length, encoded_length, encoded_words, words_fit, words_front, words_rest, ascending_rising, rising_ascending}
use Rattle.calculus.proofs.Parsing.{bind_parsed, parsed_bind, ask_parsed, parsed_ask, Refusals, parsed_refusals, refused_refusals, bind_refusals, ask_refusals}
use Rattle.calculus.proofs.Sequences.{none_left}

abbrev Is14 : ℕ → Type 0
Is14 n = n ≡ 14

abbrev Only14 : {A : Type 0} → Parsed A → Type 0
Only14 m = Refusals Is14 m

-- ---- a count

count_parsed : (bs : List ℕ) (a : ℕ × List ℕ) → count bs ≡ parsed a → bs ≡ a.0 ∷ a.1
unfolding count
count_parsed [] a e = let w : false ≡ true = cc in absurd (false≢true w)
count_parsed (b ∷ bs) a e = let z : (b, bs) ≡ a = cc in ap (λ (x : ℕ × List ℕ). x.0 ∷ x.1) z

parsed_count : (b : ℕ) (bs : List ℕ) → count (b ∷ bs) ≡ parsed (b, bs)
unfolding count
parsed_count b bs = refl

count_refusals : (bs : List ℕ) → Only14 (count bs)
unfolding count
count_refusals [] = refused_refusals Is14 14 refl
count_refusals (b ∷ bs) = parsed_refusals Is14 (b, bs)

-- ---- n numbers

record Numbers (n : ℕ) (bs : List ℕ) (xs : List ℤ) (more : List ℕ) : Type 0 where
  long : length xs ≡ n
  fit : Each Fits16 xs
  encoded : bs ≡ gather two_bytes xs ++ more

numbers_parsed : (n : ℕ) (bs : List ℕ) → Bytes bs → (a : List ℤ × List ℕ) → numbers n bs ≡ parsed a → Numbers n bs a.0 a.1
unfolding numbers
numbers_parsed n bs h a e = go (leb (2 * n) (length bs)) refl e
  where
    go : (t : Bool) → leb (2 * n) (length bs) ≡ t → cond t (parsed (words (take (2 * n) bs), drop (2 * n) bs)) (refused 14) ≡ parsed a → Numbers n bs a.0 a.1
    go false q g = let w : false ≡ true = cc in absurd (false≢true w)
    go true q g =
        let front : List ℕ = take (2 * n) bs in
        let rest : List ℕ = drop (2 * n) bs in
        let z : (words front, rest) ≡ a = cc in
        let l : length front ≡ 2 * n = length-take-le (2 * n) bs (leb-true (2 * n) (length bs) q) in
        let h' : Bytes front = each_left (λ x. x < 256) front rest (subst Bytes (sym (take-append-drop (2 * n) bs)) h) in
        subst (λ (x : List ℤ × List ℕ). Numbers n bs x.0 x.1) z (record {
          long = words_length n front l;
          fit = words_fit front h';
          encoded = sym (take-append-drop (2 * n) bs) ∙ ap (λ (x : List ℕ). x ++ rest) (sym (encoded_words n front h' l));
        })

parsed_numbers : (n : ℕ) (xs : List ℤ) (more : List ℕ) → length xs ≡ n → Each Fits16 xs → numbers n (gather two_bytes xs ++ more) ≡ parsed (xs, more)
unfolding numbers
parsed_numbers n xs more e f = rw (
  le-leb (2 * n) (length (gather two_bytes xs ++ more)) (omega (arith, length-append (gather two_bytes xs) more, encoded_length xs)),
  words_front n xs more e f,
  words_rest n xs more e,
)

numbers_refusals : (n : ℕ) (bs : List ℕ) → Only14 (numbers n bs)
unfolding numbers
numbers_refusals n bs = go (leb (2 * n) (length bs))
  where
    go : (t : Bool) → Only14 {A = List ℤ × List ℕ} (cond t (parsed (words (take (2 * n) bs), drop (2 * n) bs)) (refused 14))
    go true = parsed_refusals Is14 _
    go false = refused_refusals Is14 14 refl

-- ---- a count, then as many numbers

abbrev listed : List ℤ → List ℕ
listed xs = length xs ∷ gather two_bytes xs

record Counted (bs : List ℕ) (n : ℕ) (xs : List ℤ) (more : List ℕ) : Type 0 where
  long : length xs ≡ n
  small : n < 256
  fit : Each Fits16 xs
  rest : Bytes more
  encoded : bs ≡ listed xs ++ more

counted_parsed : (bs : List ℕ) → Bytes bs → (c : ℕ × List ℕ) → count bs ≡ parsed c → (a : List ℤ × List ℕ) → numbers c.0 c.1 ≡ parsed a → Counted bs c.0 a.0 a.1
counted_parsed bs h c e a g =
    let n : ℕ = c.0 in
    let xs : List ℤ = a.0 in
    let q : bs ≡ n ∷ c.1 = count_parsed bs c e in
    let h₁ : Bytes (n ∷ c.1) = subst Bytes q h in
    let num : Numbers n c.1 xs a.1 = numbers_parsed n c.1 h₁.1 a g in
    record {
      long = num.long;
      small = h₁.0;
      fit = num.fit;
      rest = each_right (λ x. x < 256) (gather two_bytes xs) a.1 (subst Bytes num.encoded h₁.1);
      encoded = q ∙ ap₂ {A = ℕ} {B = List ℕ} {C = List ℕ} (λ y ys. y ∷ ys) (sym num.long) num.encoded;
    }

-- ---- members for each of s sets

record Lists (s : ℕ) (bs : List ℕ) (xss : List (List ℤ)) (more : List ℕ) : Type 0 where
  many : length xss ≡ s
  rising : Each (λ xs. Rising xs × (length xs < 256)) xss
  fit : Each (λ xs. Each Fits16 xs) xss
  encoded : bs ≡ gather listed xss ++ more

lists_parsed : (s : ℕ) (bs : List ℕ) → Bytes bs → (a : List (List ℤ) × List ℕ) → member_lists s bs ≡ parsed a → Lists s bs a.0 a.1
lists_parsed zero bs h a e =
    let z : ([], bs) ≡ a = cc in
    subst (λ (x : List (List ℤ) × List ℕ). Lists 0 bs x.0 x.1) z (record { many = refl; rising = tt; fit = tt; encoded = refl })
lists_parsed (suc s) bs h a e =
    let c = bind_parsed _ _ a e in
    let ns = bind_parsed _ _ a c.2 in
    let up = ask_parsed 14 _ _ a ns.2 in
    let ls = bind_parsed _ _ a up.1 in
    let xs : List ℤ = ns.0.0 in
    let xss : List (List ℤ) = ls.0.0 in
    let more : List ℕ = ls.0.1 in
    let first : Counted bs c.0.0 xs ns.0.1 = counted_parsed bs h c.0 c.1 ns.0 ns.1 in
    let rec : Lists s ns.0.1 xss more = lists_parsed s ns.0.1 first.rest ls.0 ls.1 in
    let z : (xs ∷ xss, more) ≡ a = cc ls.2 in
    subst (λ (x : List (List ℤ) × List ℕ). Lists (suc s) bs x.0 x.1) z (record {
      many = ap suc rec.many;
      rising = ((ascending_rising xs up.0, omega (arith, first.long, first.small)), rec.rising);
      fit = (first.fit, rec.fit);
      encoded = first.encoded ∙ ap (λ (r : List ℕ). listed xs ++ r) rec.encoded ∙ sym (append_assoc (listed xs) (gather listed xss) more);
    })

parsed_lists : (s : ℕ) (xss : List (List ℤ)) (more : List ℕ) → length xss ≡ s → Each (λ xs. Rising xs × (length xs < 256)) xss → Each (λ xs. Each Fits16 xs) xss → member_lists s (gather listed xss ++ more) ≡ parsed (xss, more)
parsed_lists zero [] more e up f = refl
parsed_lists zero (xs ∷ xss) more e up f = absurd (omega arith)
parsed_lists (suc s) [] more e up f = absurd (omega arith)
parsed_lists (suc s) (xs ∷ xss) more e up f =
    let rest : List ℕ = gather listed xss ++ more in
    subst (λ (bs : List ℕ). member_lists (suc s) bs ≡ parsed (xs ∷ xss, more)) (sym (append_assoc (listed xs) (gather listed xss) more))
    (parsed_bind _ _ (length xs, gather two_bytes xs ++ rest) _ (parsed_count (length xs) (gather two_bytes xs ++ rest))
    (parsed_bind _ _ (xs, rest) _ (parsed_numbers (length xs) xs rest refl f.0)
    (parsed_ask 14 _ _ _ (rising_ascending xs up.0.0)
    (parsed_bind _ _ (xss, more) _ (parsed_lists s xss more (omega arith) up.1 f.1) refl))))

lists_refusals : (s : ℕ) (bs : List ℕ) → Only14 (member_lists s bs)
lists_refusals zero bs = parsed_refusals Is14 ([], bs)
lists_refusals (suc s) bs =
    bind_refusals Is14 _ _ (count_refusals bs) (λ c.
    bind_refusals Is14 _ _ (numbers_refusals c.0 c.1) (λ ns.
    ask_refusals Is14 14 _ _ refl
    (bind_refusals Is14 _ _ (lists_refusals s ns.1) (λ ls. parsed_refusals Is14 _))))

-- ---- all of it

module _ (prob : Problem) where
  assignment_parsed : (bs : List ℕ) → Bytes bs → (g : Handed) → read_assignment prob bs ≡ parsed g → WrittenAssignment prob bs g
  unfolding read_assignment
  assignment_parsed bs h g e =
      let c = bind_parsed _ _ g e in
      let v = ask_parsed 14 _ _ g c.2 in
      let ns = bind_parsed _ _ g v.1 in
      let ls = bind_parsed _ _ g ns.2 in
      let end = ask_parsed 14 _ _ g ls.2 in
      let xs : List ℤ = ns.0.0 in
      let xss : List (List ℤ) = ls.0.0 in
      let num : Counted bs c.0.0 xs ns.0.1 = counted_parsed bs h c.0 c.1 ns.0 ns.1 in
      let sets : Lists (set_count prob) ns.0.1 xss ls.0.1 = lists_parsed (set_count prob) ns.0.1 num.rest ls.0 ls.1 in
      let all : ns.0.1 ≡ gather listed xss = sets.encoded ∙ ap (λ (r : List ℕ). gather listed xss ++ r) (none_left ls.0.1 end.0) ∙ append-nil (gather listed xss) in
      let z : record { numbers = xs; sets = xss } ≡ g = cc end.1 in
      subst (WrittenAssignment prob bs) z (record {
        encoded = num.encoded ∙ ap (λ (r : List ℕ). listed xs ++ r) all;
        numbers = num.long ∙ eqb-true c.0.0 (length prob.variables) v.0;
        sets = sets.many;
        rising = sets.rising;
        range = (num.fit, sets.fit);
      })

  parsed_assignment : (bs : List ℕ) (g : Handed) → WrittenAssignment prob bs g → read_assignment prob bs ≡ parsed g
  unfolding read_assignment
  parsed_assignment bs g w =
      let xs : List ℤ = g.numbers in
      let xss : List (List ℤ) = g.sets in
      let sets : List ℕ = gather listed xss in
      subst (λ (x : List ℕ). read_assignment prob x ≡ parsed g) (sym w.encoded)
      (parsed_bind _ _ (length xs, gather two_bytes xs ++ sets) _ (parsed_count (length xs) (gather two_bytes xs ++ sets))
      (parsed_ask 14 _ _ _ (eq-eqb (length xs) (length prob.variables) w.numbers)
      (parsed_bind _ _ (xs, sets) _ (parsed_numbers (length xs) xs sets refl w.range.0)
      (parsed_bind _ _ (xss, []) _ (subst (λ (x : List ℕ). member_lists (set_count prob) x ≡ parsed (xss, [])) (append-nil sets) (parsed_lists (set_count prob) xss [] w.sets w.rising w.range.1))
      (parsed_ask 14 _ _ _ refl refl)))))

  pub assignment_refusals : (bs : List ℕ) (n : ℕ) → read_assignment prob bs ≡ refused n → n ≡ 14
  unfolding read_assignment
  assignment_refusals bs =
      bind_refusals Is14 _ _ (count_refusals bs) (λ c.
      ask_refusals Is14 14 _ _ refl
      (bind_refusals Is14 _ _ (numbers_refusals c.0 c.1) (λ ns.
      bind_refusals Is14 _ _ (lists_refusals (set_count prob) ns.1) (λ ls.
      ask_refusals Is14 14 _ _ refl (parsed_refusals Is14 _)))))

pub reads_assignment : ReadsAssignment
reads_assignment prob bs h = (λ g. (assignment_parsed prob bs h g, parsed_assignment prob bs g), assignment_refusals prob bs)
