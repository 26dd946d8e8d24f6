-- Bytes written at a place of a buffer.
use mathlib.Core.Path.{◌≡◌, sym, ap, ◌∙◌}
use mathlib.Core.List.{List, [], ◌++◌, append_assoc}
use Prim.Native.Nat.{ℕ, ◌+◌, ◌≤◌}
use native.Mathlib.Omega.{arith}
use native.Mathlib.Nat.{add-zero, zero-add}
use lib.ListN.{length, length-append, length-drop, take, drop, take-append-drop}
use lib.Seq.{paste, take-length, take_at, drop_at, drop-drop, length-take-le}
use Rattle.calculus.specs.Calls.{over}
use Rattle.slices.specs.Bytes.{put_at}

-- a copy of all the bytes
pub paste_whole : (d : List ℕ) (at k : ℕ) (r : List ℕ) → k ≡ length r → paste d at r k ≡ put_at d at r
paste_whole d at k r e = rw (e, take-length r) (append_assoc (take at d) r (drop (at + length r) d))

-- as long as it was
pub put_length : (d : List ℕ) (at : ℕ) (r : List ℕ) → at + length r ≤ length d → length (put_at d at r) ≡ length d
put_length d at r l = omega (arith, length-append (take at d) (r ++ drop (at + length r) d), length-append r (drop (at + length r) d), length-take-le at d (omega arith), length-drop (at + length r) d)

-- nothing written
pub put_nothing : (d : List ℕ) (at : ℕ) → put_at d at [] ≡ d
put_nothing d at = rw (add-zero at) (take-append-drop at d)

-- written over the beginning
pub put_first : (d : List ℕ) (at : ℕ) (r : List ℕ) → at ≡ 0 → put_at d at r ≡ over r d
put_first d at r e = rw (e, zero-add (length r))

-- written right after what was written
pub put_after : (d : List ℕ) (at : ℕ) (r s : List ℕ) → at ≤ length d → put_at (put_at d at r) (at + length r) s ≡ put_at d at (r ++ s)
put_after d at r s l =
    let e : length (take at d ++ r) ≡ at + length r = length-append (take at d) r ∙ ap (λ (k : ℕ). k + length r) (length-take-le at d l) in
    let x : List ℕ = drop (at + length r) d in
    let a : put_at d at r ≡ (take at d ++ r) ++ x = sym (append_assoc (take at d) r x) in
    let t : take (at + length r) (put_at d at r) ≡ take at d ++ r = ap (take (at + length r)) a ∙ take_at (take at d ++ r) x (at + length r) e in
    let q : (at + length r) + length s ≡ at + length (r ++ s) = omega (arith, length-append r s) in
    let u : drop ((at + length r) + length s) (put_at d at r) ≡ drop (at + length (r ++ s)) d =
    sym (drop-drop (length s) (at + length r) (put_at d at r))
    ∙ ap (λ (l : List ℕ). drop (length s) (drop (at + length r) l)) a
    ∙ ap (drop (length s)) (drop_at (take at d ++ r) x (at + length r) e)
    ∙ drop-drop (length s) (at + length r) d
    ∙ ap (λ (k : ℕ). drop k d) q in
    rw (t, u) (append_assoc (take at d) r (s ++ drop (at + length (r ++ s)) d) ∙ ap (λ (l : List ℕ). take at d ++ l) (sym (append_assoc r s (drop (at + length (r ++ s)) d))))
