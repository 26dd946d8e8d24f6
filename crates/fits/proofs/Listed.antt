-- The roots of a list's entries, as the code finds them.
use mathlib.Core.Path.{◌≡◌, refl, sym, ap, ap₂, ◌∙◌}
use mathlib.Core.Bool.{Bool, true, false, ◌&&◌, ◌||◌, not, cond, or-false, or_assoc}
use mathlib.Core.List.{List, [], ◌∷◌, map}
use Prim.Native.Nat.{ℕ, ◌-◌, ◌^◌, ◌<◌}
use lib.Dec.{eqb}
use lib.Bits.{bit_and, bit_or}
use borrow.Author.Tests.{eqb-true, eq-eqb}
use Rattle.calculus.specs.Limits.{most_terms}
use Rattle.calculus.specs.Lists.{any, bit}
use Rattle.calculus.proofs.Bools.{not_f, any_imp, eqb_flip}
use Rattle.calculus.proofs.Masks.{bit_of_or, bit_of_and, bit_pow, bit_zero}
use Rattle.bits.proofs.Bits.{bit_not, bit_without}
use Rattle.branch.specs.Held.{root_of}
use Rattle.std.specs.List.{fold, find}
use Rattle.std.specs.Option.{option_map_or}
use Rattle.std.specs.Prelude as result
use Rattle.std.specs.Prelude.{Some}
use Rattle.fits.specs.Words.{missed, EntryBits, OfRoots, ByEntries}

-- ---- the images of a list's entries, as bits: of `roots` the roots, of `entry_bits` the entries

module _ (f : ℕ → ℕ) where
  abbrev pub with_image : ℕ → ℕ → ℕ
  with_image w e = bit_or w (2 ^ f e)

  from : (list : List ℕ) (w h : ℕ) → bit (fold with_image w list) h ≡ (bit w h || any (λ (e : ℕ). eqb (f e) h) list)
  from [] w h = sym (or-false (bit w h))
  from (e ∷ es) w h = rw (from es (with_image w e) h, bit_of_or w (2 ^ f e) h, bit_pow (f e) h, eqb_flip h (f e), or_assoc (bit w h) (eqb (f e) h) (any (λ (k : ℕ). eqb (f k) h) es))

  pub image_bits : (list : List ℕ) (w : ℕ) → w ≡ fold with_image 0 list → (h : ℕ) → bit w h ≡ any (λ (e : ℕ). eqb (f e) h) list
  image_bits list w g h = rw (g, from list 0 h, bit_zero h)

-- ---- the first root of an entry that is not in a row

pub missed_found : (ps : List ℕ) (row : ℕ) (list : List ℕ) → missed ps row list ≡ option_map_or (λ (h : ℕ). 2 ^ h) (find (λ (h : ℕ). not (bit row h)) (map (root_of ps) list)) 0
missed_found ps row [] = refl
missed_found ps row (e ∷ es) = go (bit row (root_of ps e)) _ (missed_found ps row es)
  where
    go : (x : Bool) (r : result.Option ℕ) {m : ℕ} → m ≡ option_map_or (λ (h : ℕ). 2 ^ h) r 0 → cond x m (2 ^ root_of ps e) ≡ option_map_or (λ (h : ℕ). 2 ^ h) (cond (not x) (Some (root_of ps e)) r) 0
    go true r i = i
    go false r i = refl

-- ---- rules 19 and 20

-- what a has and b does not is nothing: b has all of a
pub covered : (a b : ℕ) → a < 2 ^ 64 → b < 2 ^ 64 → bit_and a (2 ^ 64 - 1 - b) ≡ 0 → (h : ℕ) → bit a h ≡ true → bit b h ≡ true
covered a b l m z h e = not_f (bit b h) (sym (ap (λ (x : Bool). x && not (bit b h)) e) ∙ sym (bit_without 64 a b h l m) ∙ ap (λ (n : ℕ). bit n h) z ∙ bit_zero h)

-- a root that is an entry is an entry's root
entry_root : (ps : List ℕ) (h : ℕ) → root_of ps h ≡ h → (es : List ℕ) → any (λ (e : ℕ). eqb e h) es ≡ true → any (λ (e : ℕ). eqb (root_of ps e) h) es ≡ true
entry_root ps h r es = any_imp (λ e. eqb e h) (λ e. eqb (root_of ps e) h) es (λ e q. eq-eqb (root_of ps e) h (ap (root_of ps) (eqb-true e h q) ∙ r))

-- `a & !b` at a root: whatever a is
without : (a b h : ℕ) → b < 2 ^ 64 → h < most_terms → bit (bit_and a (2 ^ 64 - 1 - b)) h ≡ (bit a h && not (bit b h))
without a b h l k = bit_of_and a (2 ^ 64 - 1 - b) h ∙ ap (λ (x : Bool). bit a h && x) (bit_not 64 b h l k)

module _ (ps : List ℕ) (row : ℕ) (list : List ℕ) (j word : ℕ) (en : EntryBits list word) where
  -- a root in the set that is an entry has an entry in its class
  in_class : OfRoots ps row → (h : ℕ) → h < most_terms → bit row h ≡ true → bit word h ≡ true → any (λ (e : ℕ). eqb (root_of ps e) h) list ≡ true
  in_class r h k b t = entry_root ps h (r h k b) list (sym (en.bits h) ∙ t)

  pub by_entries_20 : ¬ (j ≡ 19) → (r : ℕ) → (r < 2 ^ 64) × ((h : ℕ) → bit r h ≡ any (λ (e : ℕ). eqb (root_of ps e) h) list) → ByEntries ps row list j (bit_and (bit_and row (2 ^ 64 - 1 - word)) (2 ^ 64 - 1 - r))
  by_entries_20 q r f = record {
    of_19 = λ _ z. absurd (q z);
    of_20 = λ o _ h k.
        without (bit_and row (2 ^ 64 - 1 - word)) r h f.0 k
        ∙ ap₂ (λ (a b : Bool). a && not b) (without row word h en.small k) (f.1 h)
        ∙ go (bit row h) (bit word h) (any (λ (e : ℕ). eqb (root_of ps e) h) list) (in_class o h k);
  }
    where
      go : (a b c : Bool) → (a ≡ true → b ≡ true → c ≡ true) → ((a && not b) && not c) ≡ (a && not c)
      go true true c f = rw (f refl refl)
      go true false c f = refl
      go false b c f = refl
