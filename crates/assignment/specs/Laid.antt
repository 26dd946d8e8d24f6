-- Where the parts of an assignment stand that was handed in.
use Rattle.std.specs.Prelude.{◌≡◌, List, [], map, ℕ, ◌+◌, ◌*◌, ◌<◌, ◌≤◌, length, get_or, take, drop, eqb, ℤ, pos, Option, Some, None}
use Rattle.std.specs.Borrow.{Bor}
use Rattle.calculus.specs.Reading.{Parsed, parsed, refused, ◌>>=◌, ask, words, ascending}
use Rattle.calculus.specs.Encoding.{Handed}
use Rattle.calculus.specs.Check.{count, numbers, member_lists}
use Rattle.slices.specs.Bytes.{word_at, places_from}
use Rattle.assignment.specs.declared.Assignment.{Assignment}

-- question 14, for n variables and s sets
unfoldable pub read_handed : ℕ → ℕ → List ℕ → Parsed Handed
read_handed n s bs = do
  (k, r₁) ← count bs
  _ ← ask 14 (eqb k n)
  (xs, r₂) ← numbers k r₁
  (xss, r₃) ← member_lists s r₂
  _ ← ask 14 (eqb (length r₃) 0)
  parsed (record { numbers = xs; sets = xss })

-- a set's members, and what follows
unfoldable pub members_of : List ℕ → Parsed (List ℤ × List ℕ)
members_of bs = do
  (n, r₁) ← count bs
  (xs, r₂) ← numbers n r₁
  _ ← ask 14 (ascending xs)
  parsed (xs, r₂)

-- the numbers of this part are the members: it stands after the count byte, and this follows
abbrev pub MembersRead : (bs part after : List ℕ) → Type 0
MembersRead bs part after = (1 + 2 * length (words part) ≤ length bs) × (part ≡ take (2 * length (words part)) (drop 1 bs)) × (after ≡ drop (1 + 2 * length (words part)) bs) × (members_of bs ≡ parsed (words part, after))

-- its bytes and what follows, as they are parsed, or they are refused
abbrev pub MembersOf : List ℕ → Option (Bor (List ℕ) × Bor (List ℕ)) → Type 0
MembersOf bs (Some p) = MembersRead bs p.0.now p.1.now
MembersOf bs None = members_of bs ≡ refused 14

-- a set's members take two bytes each, and the next set's count byte follows
abbrev pub member_bytes : List ℤ → ℕ
member_bytes xs = 2 * length xs + 1

-- of n values and these sets: where the members of each set begin, after its count byte
abbrev pub starts_of : ℕ → List (List ℤ) → List ℕ
starts_of n xss = places_from member_bytes (2 + 2 * n) xss

-- the members of set number A: a part of the bytes
abbrev pub members_at : List ℕ → ℕ → List (List ℤ) → ℕ → List ℕ
members_at bs n xss A = take (2 * length (get_or xss A [])) (drop (get_or (starts_of n xss) A 0) bs)

-- they are there, and are those of the set
abbrev pub MembersStand : List ℕ → ℕ → List (List ℤ) → ℕ → Type 0
MembersStand bs n xss A = (get_or (starts_of n xss) A 0 + 2 * length (get_or xss A []) ≤ length bs) × (get_or xss A [] ≡ words (members_at bs n xss A))

-- these bytes are these numbers, two bytes each
abbrev pub Pairs : List ℕ → List ℤ → Type 0
Pairs bs xs = (length bs ≡ 2 * length xs) × (words bs ≡ xs)

-- the bytes of set A's members
abbrev pub part_of : Assignment → ℕ → List ℕ
part_of a A = get_or (map (λ m. m.now) a.members) A []

-- the parts are the bytes of g: a value for each variable, and of each set its members; beyond the sets there are none
pub record PartsOf (n s : ℕ) (g : Handed) (a : Assignment) : Type 0 where
  pub many : length g.numbers ≡ n
  pub values_are : Pairs a.values.now g.numbers
  pub members_are : (A : ℕ) → A < s → Pairs (part_of a A) (get_or g.sets A [])
  pub beyond : (A : ℕ) → s ≤ A → part_of a A ≡ []

-- the values of g stand in the bytes, and these are their parts
pub record Laid (bs : List ℕ) (n s : ℕ) (g : Handed) (a : Assignment) : Type 0 where
  pub numbers_are : (i : ℕ) → i < n → (2 + 2 * i < length bs) × (get_or g.numbers i (pos 0) ≡ word_at bs (1 + 2 * i))
  pub members_are : (A : ℕ) → A < s → MembersStand bs n g.sets A
  pub values_stand : a.values.now ≡ take (2 * n) (drop 1 bs)
  pub members_stand : (A : ℕ) → A < s → part_of a A ≡ members_at bs n g.sets A
  pub parts : PartsOf n s g a

-- the bytes are an assignment, with these parts, or they are not
abbrev pub Lays : (bs : List ℕ) (n s : ℕ) → Option Assignment → Type 0
Lays bs n s (Some a) = (g : Handed) × (read_handed n s bs ≡ parsed g) × Laid bs n s g a
Lays bs n s None = read_handed n s bs ≡ refused 14
