-- Words by number, those whose numbers are a word's bits.
use Rattle.std.specs.Prelude.{Bool, ◌&&◌, cond, List, [], ◌∷◌, ℕ, ◌-◌, ◌/◌, ◌^◌, get_or}
use Rattle.std.specs.Int.Bits.{bit_and, bit_or}
use Rattle.calculus.specs.Lists.{up_from, any, bit}

-- bit i is set in one of the first n words, and its number is a bit of which
abbrev pub gathers : List ℕ → (which n i : ℕ) → Bool
gathers words which n i = any (λ (k : ℕ). bit which k && bit (get_or words k 0) i) (up_from 0 n)

-- a word with some bits set, and then others cleared
unfoldable pub turn : (on off word : ℕ) → ℕ
turn on off word = bit_and (bit_or word on) ((2 ^ 64 - 1) - off)

-- the words whose numbers are bits of which, changed so
unfoldable pub turn_words : (on off which : ℕ) → List ℕ → List ℕ
turn_words on off which [] = []
turn_words on off which (w ∷ words) = cond (bit which 0) (turn on off w) w ∷ turn_words on off (which / 2) words
