-- The word that the code makes for a rule of a constraint has as its lowest bit the root of the first place where the rule applies.
use mathlib.Core.Path.{◌≡◌, refl, sym, ◌∙◌, ap, ap₂, subst, fun_ext}
use mathlib.Core.Bool.{Bool, true, false, ◌&&◌, ◌||◌, not, cond, and-true, and_assoc, or-false}
use mathlib.Core.Option
use mathlib.Core.Option.{some}
use mathlib.Core.List.{List, [], ◌∷◌, map}
use Prim.Native.Nat.{ℕ, ◌+◌, ◌-◌, ◌^◌, ◌<◌, ◌≤◌}
use native.Mathlib.Omega.{arith}
use native.Mathlib.Decide.{ℕ_discrete}
use lib.ListN.{length, get_or}
use lib.Dec.{eqb}
use lib.Bits.{bit_and}
use lib.Pow.{pow-lt}
use borrow.Author.Tests.{eqb-true, eq-eqb, ne_eqb}
use Rattle.calculus.specs.Limits.{most_sets, most_terms}
use Rattle.calculus.specs.Lists.{up_from, all, any, first, bit, Each}
use Rattle.calculus.specs.Terms.{Term, SetVar, term, set_var}
use Rattle.calculus.specs.Relations.{Relation, Negation, Operand, Literal, applies, propagation, negation_row}
use Rattle.calculus.specs.Meaning.{Constraint, member, nonmember, same, different, relation, negation, exactly, interval}
use Rattle.calculus.specs.Branch.{Branch, root_at, root, In, Out, Same}
use Rattle.calculus.specs.Branch as calculus
use Rattle.calculus.specs.Invariants.{Falls}
use Rattle.calculus.specs.Search.{Move, choose, at}
use Rattle.calculus.proofs.Bools.{clash, and_l, any_map, map_each, eqb_flip, each_is_all}
use Rattle.calculus.proofs.Masks.{bit_of_and, bit_pow, bit_zero}
use Rattle.calculus.proofs.SearchLaws.{first_stop, first_next, none_found}
use Rattle.calculus.specs.Relations.{operand_of}
use Rattle.calculus.proofs.Walk.{walk_root, root_walk}
use Rattle.calculus.specs.Invariants.{ConstraintIn}
use Rattle.branch.specs.Held.{root_of}
use Rattle.branch.specs.Rows.{literal_known, RowsOf, literal_count}
use Rattle.branch.proofs.Roots.{root_is, root_range}
use Rattle.places.specs.Places.{RuleOf, row_of, move_at, list_move, roots, positions, first_at}
use Rattle.places.proofs.Offered.{by_position}
use Rattle.constraints.specs.declared.Constraint.{Constraint as Coded}
use Rattle.constraints.specs.declared.Constraint.TheVariants.{Member, Nonmember, Same as Equated, Different, Related, Negated, Listed}
use Rattle.constraints.specs.declared.Operands.{Operands}
use Rattle.constraints.specs.declared.Negation.{Negation as CodedNegation}
use Rattle.terms.specs.declared.Term.{Term as CodedTerm}
use Rattle.constraints.specs.declared.Negation.TheVariants.{Unequal}
use Rattle.constraints.specs.declared.Entries.TheVariants.{Written, Interval}
use Rattle.constraints.specs.Decoded.{relation_of, negation_of, decoded, entries_in, Handled}
use Rattle.rules.specs.declared.Child.{Child}
use Rattle.rules.specs.declared.Denial.{Denial}
use Rattle.rules.specs.declared.Row.{Row as Code}
use Rattle.rules.specs.declared.Split.{Split}
use Rattle.rules.specs.Rows.{numbered, sets, splitting, literal_number, laid, parted, denying}
use Rattle.fits.specs.Words.{forced_word, divided_word, denied_word, met_word, LowChild, LowDenial, missed, OfRoots, ByEntries, Looked, Asked, Fits, FitsFor}
use Rattle.fits.proofs.TableTests.{row_of_relation, denied_row, forced_test, divided_test, denied_test}
use Rattle.fits.proofs.Lowest.{at_one, first_map, map_map, first_range, single, one_fits, roots_fits}
use Rattle.fits.proofs.RowBits.{known_in, known_out, applies_at, laid_low, parted_low, denying_low, forced_bits, divided_bits, met_bits, met_small, but_bits, but_three}

-- ---- the word of rule j, by the decoded constraint: over parents, rows and entries

module _ (ps rows : List ℕ) (j : ℕ) where
  abbrev pub IsWord : Coded → ℕ → Type 0
  IsWord (Member t A) w = w ≡ bit_and (2 ^ root_of ps t.0) (2 ^ 64 - 1 - get_or rows A.0 0)
  IsWord (Nonmember t A) w = w ≡ bit_and (2 ^ root_of ps t.0) (2 ^ 64 - 1 - get_or rows (most_sets + A.0) 0)
  IsWord (Equated t u) w = w ≡ bit_and (2 ^ root_of ps t.0) (2 ^ 64 - 1 - 2 ^ root_of ps u.0)
  IsWord (Different t u) w = w ≡ bit_and (2 ^ root_of ps t.0) (2 ^ root_of ps u.0)
  IsWord (Related k s) w = (splitting j ≡ false → w ≡ forced_word rows (laid (sets s) (numbered j))) × (splitting j ≡ true → w ≡ divided_word rows (parted (sets s) (numbered j)))
  IsWord (Negated k s x) w = w ≡ denied_word rows (denying (sets s) (negation_row (negation_of k))) (root_of ps x.0)
  IsWord (Listed k A es) w = ByEntries ps (get_or rows A.0 0) es.now j w

-- a test of one fact
once : (a : Bool) → not ((a && true) || false) ≡ not a
once a = ap not (or-false (a && true) ∙ and-true a)

-- a root is its own root
pub root_own : (ps : List ℕ) → Falls ps → (t : ℕ) → root_of ps (root_of ps t) ≡ root_of ps t
unfolding root_of
root_own ps fall t = walk_root ps fall (root_of ps t) (root_walk ps fall t)

-- root h is known to be the same as some entry where an entry is of its class
pub class_known : (b : Branch) (h : ℕ) → root_at b h ≡ h → (es : List ℕ) → any (all (calculus.known b)) (map (λ (x : Term). Same (term h) x ∷ []) (map term es)) ≡ any (λ (e : ℕ). eqb (root_of b.parents e) h) es
class_known b h e es =
    any_map (all (calculus.known b)) (λ (x : Term). Same (term h) x ∷ []) (map term es) ∙ any_map (λ (x : Term). all (calculus.known b) (Same (term h) x ∷ [])) term es
    ∙ ap (λ (f : ℕ → Bool). any f es) (fun_ext (λ x. and-true (eqb (root_at b h) (root_at b x)) ∙ ap₂ eqb e (root_is b x) ∙ eqb_flip h (root_of b.parents x)))

module _ (n : ℕ) (b : Branch) (rows : List ℕ) (of : RowsOf b rows) (fall : Falls b.parents) (few : n ≤ most_terms) where
  abbrev rt : ℕ → ℕ
  rt t = root_of b.parents t

  is : (t : ℕ) → root_at b t ≡ rt t
  is t = root_is b t

  low : (t : ℕ) → t < n → rt t < n
  low t l = root_range b fall n t (rt t) l (sym (is t))

  low64 : (t : ℕ) → t < n → rt t < most_terms
  low64 t l = let k = low t l in omega arith

  own : (t : ℕ) → root_at b (rt t) ≡ rt t
  own t = is (rt t) ∙ root_own b.parents fall t

  -- what a row says of a root
  row_at : (k t : ℕ) → k < literal_count → t < n → bit (get_or rows k 0) (rt t) ≡ literal_known b k (rt t)
  row_at k t l m = of.says k (rt t) l (low64 t m) ∙ ap (λ (q : Bool). q && literal_known b k (rt t)) (eq-eqb (root_at b (rt t)) (rt t) (own t))

  -- a rule that is tested at the root of term t alone
  one_at : (l : Constraint) (j t : ℕ) → t < n → positions n b l j ≡ root_at b t ∷ [] → ((p : ℕ) → (move_at b l j p).0 ≡ root b (term t)) → (c : Bool) → applies (calculus.known b) (move_at b l j (rt t)).1 ≡ c → (w : ℕ) → ((h : ℕ) → bit w h ≡ (eqb h (rt t) && c)) → Fits n b l j w
  one_at l j t lt at on c e w f = one_fits n b l j few (rt t) (at ∙ ap (λ (r : ℕ). r ∷ []) (is t)) (ap (λ (x : Term). x.index) (on (rt t)) ∙ is t) (low t lt) c e w (λ h _. f h)

  -- it applies where a word has not that root
  one_but : (l : Constraint) (j t : ℕ) → t < n → positions n b l j ≡ root_at b t ∷ [] → ((p : ℕ) → (move_at b l j p).0 ≡ root b (term t)) → (x : ℕ) → x < 2 ^ 64 → (k : Bool) → bit x (rt t) ≡ k → applies (calculus.known b) (move_at b l j (rt t)).1 ≡ not k → (w : ℕ) → w ≡ bit_and (2 ^ rt t) (2 ^ 64 - 1 - x) → Fits n b l j w
  one_but l j t lt at on x s k q e w f = one_at l j t lt at on (not k) e w (λ h. ap (λ (y : ℕ). bit y h) f ∙ but_bits (rt t) x (low64 t lt) s h ∙ ap (λ (y : Bool). eqb h (rt t) && not y) q)

  -- a rule that is tested at every root
  root_bits : (x : Bool) (f g : Bool) → (x ≡ true → f ≡ g) → (x && f) ≡ (x && g)
  root_bits true f g e = e refl
  root_bits false f g e = refl

  -- ---- relations

  module _ (k : Relation) (A B C : SetVar) (j : ℕ) (r : RuleOf (relation k A B C) j) (lows : (A.index < most_sets) × (B.index < most_sets) × (C.index < most_sets)) where
    abbrev K : ℕ → Literal → Bool
    K h l = literal_known b (literal_number (operand_of A.index B.index C.index) l) h

    here : (h : ℕ) → root_at b h ≡ h → applies (calculus.known b) (move_at b (relation k A B C) j h).1 ≡ applies (K h) (numbered j)
    here h e = applies_at b h h e A B C lows (row_of k j) ∙ ap (applies (K h)) (row_of_relation k A B C j r).is

    -- the code's test at every root is the rule's
    test_fits : (w : ℕ) (t : (Literal → Bool) → Bool) → ((h : ℕ) → h < most_terms → bit w h ≡ (eqb (root_at b h) h && t (K h))) → ((f : Literal → Bool) → applies f (numbered j) ≡ t f) → Fits n b (relation k A B C) j w
    test_fits w t f g = roots_fits n b (relation k A B C) j few refl (λ p. refl) w (λ h l. f h l ∙ root_bits (eqb (root_at b h) h) (t (K h)) (applies (calculus.known b) (move_at b (relation k A B C) j h).1) (λ q. sym (here h (eqb-true (root_at b h) h q) ∙ g (K h))))

    abbrev S : Operand → ℕ
    S = operand_of A.index B.index C.index

    forced_fits : splitting j ≡ false → (w : ℕ) → w ≡ forced_word rows (laid S (numbered j)) → Fits n b (relation k A B C) j w
    forced_fits m w f = test_fits w (λ g. forced_test g (numbered j)) (λ h l. ap (λ (x : ℕ). bit x h) f ∙ forced_bits b rows of h l (laid S (numbered j)) (laid_low A.index B.index C.index lows (numbered j))) ((row_of_relation k A B C j r).forced m)

    divided_fits : splitting j ≡ true → (w : ℕ) → w ≡ divided_word rows (parted S (numbered j)) → Fits n b (relation k A B C) j w
    divided_fits m w f = test_fits w (λ g. divided_test g (numbered j)) (λ h l. ap (λ (x : ℕ). bit x h) f ∙ divided_bits b rows of h l (parted S (numbered j)) (parted_low A.index B.index C.index lows (numbered j))) ((row_of_relation k A B C j r).divided m)

  -- ---- negations

  denied_fits : (k : Negation) (A B C : SetVar) (t j : ℕ) → (A.index < most_sets) × (B.index < most_sets) × (C.index < most_sets) → t < n → (w : ℕ) → w ≡ denied_word rows (denying (operand_of A.index B.index C.index) (negation_row k)) (rt t) → Fits n b (negation k A B C (term t)) j w
  denied_fits k A B C t j lows lt w f =
      one_at (negation k A B C (term t)) j t lt refl (λ p. refl) (denied_test K (negation_row k)) (applies_at b t (rt t) (is t) A B C lows (negation_row k) ∙ denied_row k K) w
      (λ h. ap (λ (k : ℕ). bit k h) f ∙ but_three (rt t) _ _ _ (low64 t lt) (met_small b rows of d.0 small.0) (met_small b rows of d.1 small.1) (met_small b rows of d.2 small.2) h
      ∙ ap (λ (q : Bool). eqb h (rt t) && q) (ap₂ ◌&&◌ (ap₂ ◌&&◌ (ap not (met d.0 small.0)) (ap not (met d.1 small.1))) (ap not (met d.2 small.2))))
    where
      d : Denial
      d = denying (operand_of A.index B.index C.index) (negation_row k)

      small : LowDenial d
      small = denying_low A.index B.index C.index lows (negation_row k)

      K : Literal → Bool
      K l = literal_known b (literal_number (operand_of A.index B.index C.index) l) (rt t)

      met : (c : Child) → LowChild c → bit (met_word rows c) (rt t) ≡ ((literal_known b c.0.0 (rt t) && literal_known b c.1.0 (rt t)) && literal_known b c.2.0 (rt t))
      met c x = met_bits b rows of (rt t) (low64 t lt) c x ∙ ap (λ (q : Bool). q && ((literal_known b c.0.0 (rt t) && literal_known b c.1.0 (rt t)) && literal_known b c.2.0 (rt t))) (eq-eqb (root_at b (rt t)) (rt t) (own t))

  -- ---- lists

  module _ (A : SetVar) (lowA : A.index < most_sets) where
    abbrev row : ℕ
    row = get_or rows A.index 0

    -- rule 19 at an entry
    abbrev G : Term → Term × Move
    G e = (root b e, propagation 19 [] (In e A))

    abbrev holds : Term × Move → Bool
    holds m = applies (calculus.known b) m.1

    entry_holds : (x : ℕ) → holds (G (term x)) ≡ not (literal_known b A.index (rt x))
    entry_holds x = once (calculus.known b (In (term x) A)) ∙ ap not (known_in b x (rt x) (is x) A lowA)

    -- the first entry where it applies
    first_entry : (xs : List ℕ) → Each (λ e. e < n) xs → Option.map (λ (m : Term × Move). m.0.index) (first holds (map G (map term xs))) ≡ first (bit (missed b.parents row xs)) (up_from 0 n)
    first_entry [] e = sym (none_found (bit 0) (up_from 0 n) (each_is_all (λ h. bit 0 h ≡ false) bit_zero (up_from 0 n)))
    first_entry (x ∷ xs) (l, e) = go (literal_known b A.index (rt x)) (entry_holds x) (row_at A.index x (omega arith) l) (first_entry xs e)
      where
        Rest : Type 0
        Rest = Option.map (λ (m : Term × Move). m.0.index) (first holds (map G (map term xs))) ≡ first (bit (missed b.parents row xs)) (up_from 0 n)

        go : (d : Bool) → holds (G (term x)) ≡ not d → bit row (rt x) ≡ d → Rest → Option.map (λ (m : Term × Move). m.0.index) (first holds (map G (map term (x ∷ xs)))) ≡ first (bit (missed b.parents row (x ∷ xs))) (up_from 0 n)
        go true p q ih =
            ap (Option.map (λ (m : Term × Move). m.0.index)) (first_next holds (G (term x)) (map G (map term xs)) p) ∙ ih
            ∙ ap (λ (t : Bool). first (bit (cond t (missed b.parents row xs) (2 ^ rt x))) (up_from 0 n)) (sym q)
        go false p q ih =
            ap (Option.map (λ (m : Term × Move). m.0.index)) (first_stop holds (G (term x)) (map G (map term xs)) p) ∙ ap some (is x)
            ∙ sym (first_range (bit (2 ^ rt x)) (λ h. eqb h (rt x) && true) 0 n (λ h _ _. bit_pow (rt x) h ∙ sym (and-true (eqb h (rt x)))) ∙ single (rt x) n (low x l) true)
            ∙ ap (λ (t : Bool). first (bit (cond t (missed b.parents row xs) (2 ^ rt x))) (up_from 0 n)) (sym q)

    -- the row has roots only
    of_roots : OfRoots b.parents row
    of_roots h l t = sym (is h) ∙ eqb-true (root_at b h) h (and_l (eqb (root_at b h) h) (literal_known b A.index h) (sym (of.says A.index h (omega arith) l) ∙ t))

    -- rule 20 at root h
    chosen : (h : ℕ) → root_at b h ≡ h → (es : List ℕ) → applies (calculus.known b) (choose [] b A (map term es) (term h)) ≡ (literal_known b A.index h && not (any (λ (e : ℕ). eqb (rt e) h) es))
    chosen h e es = ap₂ (λ (x y : Bool). x && not y) (and-true (calculus.known b (In (term h) A)) ∙ known_in b h h e A lowA)
        (class_known b h e es)

    module _ (l : Constraint) (j : ℕ) (es : List ℕ) (each : Each (λ e. e < n) es) (w : ℕ) (f : ByEntries b.parents row es j w)
        (move : (p : ℕ) → move_at b l j p ≡ list_move b A (map term es) j p) (at : positions n b l j ≡ cond (eqb j 19) (up_from 0 (length (map term es))) (roots n b)) where
      entering_fits : j ≡ 19 → Fits n b l j w
      entering_fits q =
          let t : eqb j 19 ≡ true = eq-eqb j 19 q in
          let m : (p : ℕ) → move_at b l j p ≡ G (get_or (map term es) p (term 0)) = λ p. move p ∙ ap (λ (x : Bool). cond x (G (get_or (map term es) p (term 0))) (term p, choose [] b A (map term es) (term p))) t in
          let ps : positions n b l j ≡ up_from 0 (length (map term es)) = at ∙ ap (λ (x : Bool). cond x (up_from 0 (length (map term es))) (roots n b)) t in
          sym (map_map (λ (x : Term × Move). x.0.index) (move_at b l j) (first_at n b l j))
          ∙ ap (Option.map (λ (x : Term × Move). x.0.index))
          (sym (first_map holds (move_at b l j) (positions n b l j))
          ∙ ap (λ (xs : List ℕ). first holds (map (move_at b l j) xs)) ps ∙ ap (λ (g : ℕ → Term × Move). first holds (map g (up_from 0 (length (map term es))))) (fun_ext m)
          ∙ ap (first holds) (sym (by_position G (term 0) (map term es))))
          ∙ first_entry es each ∙ ap (λ (k : ℕ). first (bit k) (up_from 0 n)) (sym (f.of_19 of_roots q))

      choosing_fits : ¬ (j ≡ 19) → Fits n b l j w
      choosing_fits q =
          let t : eqb j 19 ≡ false = ne_eqb j 19 q in
          let m : (p : ℕ) → move_at b l j p ≡ (term p, choose [] b A (map term es) (term p)) = λ p. move p ∙ ap (λ (x : Bool). cond x (G (get_or (map term es) p (term 0))) (term p, choose [] b A (map term es) (term p))) t in
          roots_fits n b l j few (at ∙ ap (λ (x : Bool). cond x (up_from 0 (length (map term es))) (roots n b)) t) (λ p. ap (λ (x : Term × Move). x.0.index) (m p)) w
          (λ h k. f.of_20 of_roots q h k ∙ ap (λ (x : Bool). x && not (any (λ (e : ℕ). eqb (rt e) h) es)) (of.says A.index h (omega arith) k)
          ∙ and_assoc (eqb (root_at b h) h) (literal_known b A.index h) (not (any (λ (e : ℕ). eqb (rt e) h) es))
          ∙ root_bits (eqb (root_at b h) h) (literal_known b A.index h && not (any (λ (e : ℕ). eqb (rt e) h) es)) (applies (calculus.known b) (move_at b l j h).1)
          (λ z. sym (ap (λ (x : Term × Move). applies (calculus.known b) x.1) (m h) ∙ chosen h (eqb-true (root_at b h) h z) es)))

      list_fits : Fits n b l j w
      list_fits = go (ℕ_discrete j 19)
        where
          go : Dec (j ≡ 19) → Fits n b l j w
          go (yes q) = entering_fits q
          go (no q) = choosing_fits q

-- ---- every constraint

each_term : (n : ℕ) (es : List ℕ) → Each (λ (e : Term). e.index < n) (map term es) → Each (λ e. e < n) es
each_term n = map_each (λ (e : Term). e.index < n) term

fits_of : (n : ℕ) (b : Branch) (rows : List ℕ) (j : ℕ) → RowsOf b rows → Falls b.parents → n ≤ most_terms → (l : Coded) → ConstraintIn n most_sets (decoded l) → RuleOf (decoded l) j → (w : ℕ) → IsWord b.parents rows j l w → Fits n b (decoded l) j w
fits_of n b rows j of fall few (Member t A) c r w i =
    one_but n b rows of fall few (member (term t.0) (set_var A.0)) j t.0 c.0 refl (λ p. refl) (get_or rows A.0 0) (of.small A.0 (omega (arith, c.1))) _ (row_at n b rows of fall few A.0 t.0 (omega (arith, c.1)) c.0)
    (once (calculus.known b (In (term t.0) (set_var A.0))) ∙ ap not (known_in b t.0 (root_of b.parents t.0) (root_is b t.0) (set_var A.0) c.1)) w i
fits_of n b rows j of fall few (Nonmember t A) c r w i =
    one_but n b rows of fall few (nonmember (term t.0) (set_var A.0)) j t.0 c.0 refl (λ p. refl) (get_or rows (most_sets + A.0) 0) (of.small (most_sets + A.0) (omega (arith, c.1))) _ (row_at n b rows of fall few (most_sets + A.0) t.0 (omega (arith, c.1)) c.0)
    (once (calculus.known b (Out (term t.0) (set_var A.0))) ∙ ap not (known_out b t.0 (root_of b.parents t.0) (root_is b t.0) (set_var A.0) c.1)) w i
fits_of n b rows j of fall few (Equated t u) c r w i =
    one_but n b rows of fall few (same (term t.0) (term u.0)) j t.0 c.0 refl (λ p. refl) (2 ^ root_of b.parents u.0) (pow-lt (low64 n b rows of fall few u.0 c.1)) _ (bit_pow (root_of b.parents u.0) (root_of b.parents t.0))
    (once (eqb (root_at b t.0) (root_at b u.0)) ∙ ap₂ (λ (x y : ℕ). not (eqb x y)) (root_is b t.0) (root_is b u.0)) w i
fits_of n b rows j of fall few (Different t u) c r w i =
    one_at n b rows of fall few (different (term t.0) (term u.0)) j t.0 c.0 refl (λ p. refl) (eqb (root_of b.parents t.0) (root_of b.parents u.0))
    (and-true _ ∙ and-true _ ∙ ap₂ eqb (root_is b t.0) (root_is b u.0)) w
    (λ h. ap (λ (x : ℕ). bit x h) i ∙ bit_of_and (2 ^ root_of b.parents t.0) (2 ^ root_of b.parents u.0) h ∙ ap₂ ◌&&◌ (bit_pow (root_of b.parents t.0) h) (bit_pow (root_of b.parents u.0) h) ∙ at_one (λ k. eqb k (root_of b.parents u.0)) h (root_of b.parents t.0))
fits_of n b rows j of fall few (Related k s) c r w i = go (splitting j) refl
  where
    go : (x : Bool) → splitting j ≡ x → Fits n b (relation (relation_of k) (set_var s.0.0) (set_var s.1.0) (set_var s.2.0)) j w
    go true z = divided_fits n b rows of fall few (relation_of k) (set_var s.0.0) (set_var s.1.0) (set_var s.2.0) j r c z w (i.1 z)
    go false z = forced_fits n b rows of fall few (relation_of k) (set_var s.0.0) (set_var s.1.0) (set_var s.2.0) j r c z w (i.0 z)
fits_of n b rows j of fall few (Negated k s x) c r w i = denied_fits n b rows of fall few (negation_of k) (set_var s.0.0) (set_var s.1.0) (set_var s.2.0) x.0 j c.0 c.1 w i
fits_of n b rows j of fall few (Listed Written A es) c r w i = list_fits n b rows of fall few (set_var A.0) c.0 (exactly (set_var A.0) (map term es.now)) j es.now (each_term n es.now c.1) w i (λ p. refl) refl
fits_of n b rows j of fall few (Listed (Interval x y) A es) c r w i =
    list_fits n b rows of fall few (set_var A.0) c.0 (interval (set_var A.0) (term x.0) (term y.0) (map term es.now)) j es.now (each_term n es.now c.1) w i (λ p. refl) refl

-- for the code: l is what was matched as m
module _ {word j : ℕ} {l m : Coded} (e : l ≡ m) (q : Asked word l j) where
  pub in_range : ConstraintIn most_terms most_sets (decoded m)
  in_range = subst (λ (x : Coded). ConstraintIn most_terms most_sets (decoded x)) e q.handled.in_range

  pub fits_right : (ps rows : List ℕ) → Falls ps → (w : ℕ) → IsWord ps rows j m w → FitsFor ps rows l j w
  fits_right ps rows fall w i n b few c s =
      fits_of n b rows j s.rows_are (subst Falls (sym s.parents_are) fall) few l c q.of_rule w
      (subst (λ (x : Coded). IsWord b.parents rows j x w) (sym e) (subst (λ (qs : List ℕ). IsWord qs rows j m w) (sym s.parents_are) i))

-- what row_of, split_of and denial_of answer makes the right words
module _ (rows : List ℕ) (j w : ℕ) (s : Operands) where
  abbrev Word : Type 0
  Word = (splitting j ≡ false → w ≡ forced_word rows (laid (sets s) (numbered j))) × (splitting j ≡ true → w ≡ divided_word rows (parted (sets s) (numbered j)))

  pub forced_word_is : ¬ (j ≡ 12) → (x : Code) → x ≡ laid (sets s) (numbered j) → w ≡ forced_word rows x → Word
  forced_word_is n x q f = (λ _. f ∙ ap (forced_word rows) q, λ z. absurd (n (eqb-true j 12 z)))

  pub divided_word_is : j ≡ 12 → (x : Split) → x ≡ parted (sets s) (numbered 12) → w ≡ divided_word rows x → Word
  divided_word_is n x q f = (λ z. clash (eq-eqb j 12 n) z, λ _. f ∙ ap (divided_word rows) (q ∙ ap (λ (i : ℕ). parted (sets s) (numbered i)) (sym n)))

pub denied_word_is : {l : Coded} {k : CodedNegation} {s : Operands} {t : CodedTerm} → l ≡ Negated k s t → (rows : List ℕ) (w h : ℕ) (x : Denial) → x ≡ denying (sets s) (numbered 7) → w ≡ denied_word rows x h → w ≡ denied_word rows (denying (sets s) (negation_row (negation_of k))) h
denied_word_is {l} {k} {s} e rows w h x q f = f ∙ ap (λ (x : Denial). denied_word rows x h) (q ∙ ap (denying (sets s)) (seven k))
  where
    seven : (k : CodedNegation) → numbered 7 ≡ negation_row (negation_of k)
    seven Unequal = refl

-- the entries are terms below n, and so below 64
pub entries_low : (n : ℕ) (l : Coded) → ConstraintIn n most_sets (decoded l) → Each (λ e. e < n) (entries_in l)
entries_low n (Member t A) c = tt
entries_low n (Nonmember t A) c = tt
entries_low n (Equated t u) c = tt
entries_low n (Different t u) c = tt
entries_low n (Related k s) c = tt
entries_low n (Negated k s w) c = tt
entries_low n (Listed Written A es) c = each_term n es.now c.1
entries_low n (Listed (Interval x y) A es) c = each_term n es.now c.1

pub entries_below : (l : Coded) → Handled l → Each (λ e. e < most_terms) (entries_in l)
entries_below l h = entries_low most_terms l h.in_range

-- what the test looks up is below the limits
pub looks : (l : Coded) → Handled l → Looked l
looks (Member t A) h = tt
looks (Nonmember t A) h = tt
looks (Equated t u) h = tt
looks (Different t u) h = h.in_range
looks (Related k s) h = tt
looks (Negated k s w) h = tt
looks (Listed Written A es) h = h.in_range.0
looks (Listed (Interval x y) A es) h = h.in_range.0
