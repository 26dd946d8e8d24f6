-- What was read and written, piece by piece.
use Rattle.std.proofs.Common.{◌≡◌, refl, sym, ap, ◌∙◌, arith, ℕ, zero, suc, ◌+◌, ◌≤◌, ◌<◌, List, [], ◌∷◌, ◌++◌, length, take, drop, append_assoc, append-nil, length-take-le}
use lib.ListN.{get_or}
use lib.Seq.{take-append-add, take-append-le, take_at}
use borrow.Rule.Slice.PartMut.{put_mid, post_of}
use Rattle.calculus.specs.Calls.{over}
use Rattle.calculus.specs.Lists.{gather}
use Rattle.listing_lines.specs.Listing.{listing}
use Rattle.listing_lines.specs.Writing.{line_at}

-- n bytes more, right after the first a
pub filled : (a k n : ℕ) (xs ys : List ℕ) → a ≤ length xs → n ≤ length ys → take (a + n) (put_mid a k xs ys) ≡ take a xs ++ take n ys
filled a k n xs ys l m =
    let p = take a xs in
    let q = post_of a k xs in
    ap (λ j. take (j + n) (p ++ (ys ++ q))) (sym (length-take-le a xs l)) ∙ take-append-add p (ys ++ q) n ∙ ap (λ t. p ++ t) (take-append-le n ys q m)

one_more : (ls : List (List ℕ)) (i : ℕ) → i < length ls → gather (λ (b : List ℕ). b) (take (suc i) ls) ≡ gather (λ (b : List ℕ). b) (take i ls) ++ get_or ls i []
one_more [] i h = absurd (omega arith)
one_more (l ∷ ls) zero h = append-nil l
one_more (l ∷ ls) (suc i) h = ap (λ t. l ++ t) (one_more ls i (omega arith)) ∙ sym (append_assoc l (gather (λ (b : List ℕ). b) (take i ls)) (get_or ls i []))

-- the first i lines, and what line i was in a buffer
pub line_more : (bytes : List ℕ) (i k : ℕ) (old new : List ℕ) → i < length (listing bytes) → new ≡ over (line_at bytes i) old → k ≡ length (line_at bytes i)
    → gather (λ (b : List ℕ). b) (take i (listing bytes)) ++ take k new ≡ gather (λ (b : List ℕ). b) (take (i + 1) (listing bytes))
unfolding line_at
line_more bytes i k old new h p q =
    let s = get_or (listing bytes) i [] in
    let e : take k new ≡ s = rw (p, q) (take_at s (drop (length s) old) (length s) refl) in
    let j : suc i ≡ i + 1 = omega arith in
    ap (λ t. gather (λ (b : List ℕ). b) (take i (listing bytes)) ++ t) e ∙ sym (one_more (listing bytes) i h) ∙ ap (λ n. gather (λ (b : List ℕ). b) (take n (listing bytes))) j
