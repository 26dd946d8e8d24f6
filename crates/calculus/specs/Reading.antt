-- Questions 1 to 11: the problem that bytes hold, or the number of the first question answered "no".
use Rattle.std.specs.Prelude.{Bool, true, false, ◌&&◌, cond, List, [], ◌∷◌, map, ℕ, zero, suc, ◌+◌, ◌*◌, ◌-◌, length, get_or, take, drop, leb, ltb, eqb, ℤ, pos, negsuc}
use Rattle.std.proofs.Math.IntN.{suc_ℤ}
use Rattle.std.specs.Int.Signed.{lt_z, le_z}
use Rattle.calculus.specs.Limits.{most_bytes, most_sets, most_constraints, most_terms}
use Rattle.calculus.specs.Lists.{all, up_from}
use Rattle.calculus.specs.Terms.{Term, SetVar, term, set_var}
use Rattle.calculus.specs.Relations.{equal, union, disjoint, subset, intersection, unequal}
use Rattle.calculus.specs.Meaning.{Constraint, member, nonmember, same, different, relation, negation, exactly, interval}
use Rattle.calculus.specs.Problem.{Problem, entries, uses}

-- what is read, or a refusal with its number
pub data Parsed (A : Type 0) : Type 0 where
  parsed : A → Parsed A
  refused : ℕ → Parsed A

infixl 1 ◌>>=◌
module _ {A B : Type 0} where
  unfoldable pub ◌>>=◌ : Parsed A → (A → Parsed B) → Parsed B
  ◌>>=◌ (parsed a) f = f a
  ◌>>=◌ (refused n) f = refused n

-- a question with its number, and whether the answer is "yes"
unfoldable pub ask : ℕ → Bool → Parsed Bool
ask n true = parsed true
ask n false = refused n

-- the next byte, or the next n bytes, and what follows: is it there? 2
unfoldable pub byte : List ℕ → Parsed (ℕ × List ℕ)
byte [] = refused 2
byte (b ∷ bs) = parsed (b, bs)

unfoldable pub bytes : ℕ → List ℕ → Parsed (List ℕ × List ℕ)
bytes n bs = cond (leb n (length bs)) (parsed (take n bs, drop n bs)) (refused 2)

-- two's complement of 16 bits, and a list of such numbers, low byte first
abbrev pub signed : ℕ → ℤ
signed n = cond (ltb n 32768) (pos n) (negsuc (65535 - n))

abbrev pub words : List ℕ → List ℤ
words [] = []
words (a ∷ []) = []
words (a ∷ b ∷ bs) = signed (a + 256 * b) ∷ words bs

-- question 3: strictly ascending, and from −32,000 to 32,000
abbrev pub ascending : List ℤ → Bool
ascending [] = true
ascending (a ∷ []) = true
ascending (a ∷ b ∷ bs) = lt_z a b && ascending (b ∷ bs)

abbrev pub in_range : List ℤ → Bool
in_range cs = all (λ c. le_z (negsuc 31999) c && le_z c (pos 32000)) cs

-- questions 4 and 5: strictly ascending letters from lo to hi
abbrev pub letters : ℕ → ℕ → List ℕ → Bool
letters lo hi [] = true
letters lo hi (a ∷ []) = leb lo a && leb a hi
letters lo hi (a ∷ b ∷ bs) = leb lo a && leb a hi && ltb a b && letters lo hi (b ∷ bs)

abbrev pub eq_z : ℤ → ℤ → Bool
eq_z (pos m) (pos n) = eqb m n
eq_z (pos m) (negsuc n) = false
eq_z (negsuc m) (pos n) = false
eq_z (negsuc m) (negsuc n) = eqb m n

-- question 9: from constant i to constant j each is followed by the next whole number (none is asked for where j < i)
abbrev pub gapless : List ℤ → ℕ → ℕ → Bool
gapless cs i j = all (λ p. eq_z (get_or cs (suc p) (pos 0)) (suc_ℤ (get_or cs p (pos 0)))) (up_from i (j - i))

-- ---- a constraint

abbrev pub Parser : Type 0
Parser = List ℕ → Parsed (Constraint × List ℕ)

abbrev pub refuse : ℕ → Parser
refuse n bs = refused n

-- cs are the constants, the first N terms can be named, and there are S sets
module _ (cs : List ℤ) (N S : ℕ) where
  -- two operands, the first below p and the second below q, or three set operands
  abbrev pub two : ℕ → ℕ → (ℕ → ℕ → Constraint) → Parser
  two p q make bs = do
    (x, r₁) ← byte bs
    (y, r₂) ← byte r₁
    _ ← ask 8 (ltb x p && ltb y q)
    parsed (make x y, r₂)

  abbrev pub three : (SetVar → SetVar → SetVar → Constraint) → Parser
  three make bs = do
    (x, r₁) ← byte bs
    (y, r₂) ← byte r₁
    (z, r₃) ← byte r₂
    _ ← ask 8 (ltb x S && ltb y S && ltb z S)
    parsed (make (set_var x) (set_var y) (set_var z), r₃)

  abbrev pub of_term_set : (Term → SetVar → Constraint) → Parser
  of_term_set make = two N S (λ t A. make (term t) (set_var A))

  abbrev pub of_terms : (Term → Term → Constraint) → Parser
  of_terms make = two N N (λ t u. make (term t) (term u))

  abbrev pub of_sets : (SetVar → SetVar → Constraint) → Parser
  of_sets make = two S S (λ A B. make (set_var A) (set_var B))

  abbrev pub of_list : Parser
  of_list bs = do
    (A, r₁) ← byte bs
    (n, r₂) ← byte r₁
    (es, r₃) ← bytes n r₂
    _ ← ask 8 (ltb A S && all (λ e. ltb e N) es)
    parsed (exactly (set_var A) (map term es), r₃)

  abbrev pub of_interval : Parser
  of_interval bs = do
    (A, r₁) ← byte bs
    (i, r₂) ← byte r₁
    (j, r₃) ← byte r₂
    _ ← ask 8 (ltb A S && ltb i N && ltb j N)
    _ ← ask 9 (ltb i (length cs) && ltb j (length cs) && gapless cs i j)
    parsed (interval (set_var A) (term i) (term j) (entries (term i) (term j)), r₃)

  -- kinds 0 to 12, of which 0 is none; w is the next witness
  abbrev pub kinds : ℕ → List Parser
  kinds w =
      refuse 7
      ∷ of_term_set member ∷ of_term_set nonmember
      ∷ of_terms same ∷ of_terms different
      ∷ of_sets (λ A B. relation equal A B A) ∷ of_sets (λ A B. negation unequal A B A (term w))
      ∷ three (relation union)
      ∷ of_sets (λ A B. relation disjoint A B A) ∷ of_sets (λ A B. relation subset A B A)
      ∷ three (relation intersection)
      ∷ of_list ∷ of_interval ∷ []

  abbrev pub constraint : ℕ → Parser
  constraint w bs = do
    (k, rest) ← byte bs
    get_or (kinds w) k (refuse 7) rest

  -- n constraints, one by one: with the number after the last witness, and the bytes left
  abbrev pub constraints : ℕ → ℕ → List ℕ → Parsed (List Constraint × ℕ × List ℕ)
  constraints w zero bs = parsed ([], w, bs)
  constraints w (suc n) bs = do
    (l, r) ← constraint w bs
    (ls, w', rest) ← constraints (w + uses l) n r
    parsed (l ∷ ls, w', rest)

-- ---- the sections, last first: each asks its questions and goes on

-- constants cs, variables ns, set variables ss
unfoldable pub read_constraints : List ℤ → List ℕ → List ℕ → List ℕ → Parsed Problem
read_constraints cs ns ss bs = do
  (m, r₁) ← byte bs
  _ ← ask 6 (leb m most_constraints)
  (ls, w, r₂) ← constraints cs (length cs + length ns) (length ss) (length cs + length ns) m r₁
  _ ← ask 10 (eqb (length r₂) 0)
  _ ← ask 11 (leb w most_terms)
  parsed (record { constants = cs; variables = ns; sets = ss; witnesses = w - (length cs + length ns); constraints = ls })

unfoldable pub read_sets : List ℤ → List ℕ → List ℕ → Parsed Problem
read_sets cs ns bs = do
  (s, r₁) ← byte bs
  (ss, r₂) ← bytes s r₁
  _ ← ask 5 (letters 65 90 ss && leb s most_sets)
  read_constraints cs ns ss r₂

unfoldable pub read_variables : List ℤ → List ℕ → Parsed Problem
read_variables cs bs = do
  (n, r₁) ← byte bs
  (ns, r₂) ← bytes n r₁
  _ ← ask 4 (letters 97 122 ns)
  read_sets cs ns r₂

unfoldable pub read_constants : List ℕ → Parsed Problem
read_constants bs = do
  (k, r₁) ← byte bs
  (ws, r₂) ← bytes (2 * k) r₁
  _ ← ask 3 (ascending (words ws) && in_range (words ws))
  read_variables (words ws) r₂

unfoldable pub read : List ℕ → Parsed Problem
read bs = do
  _ ← ask 1 (leb (length bs) most_bytes)
  read_constants bs
