-- The laws of laying out an assignment set by set: reading the whole is reading what is left.
use mathlib.Core.Path.{◌≡◌, refl, sym, ap, ◌∙◌}
use mathlib.Core.Bool.{Bool, true, false}
use mathlib.Core.List.{List, [], ◌∷◌, ◌++◌, map, append_assoc, append-nil, map-append}
use Prim.Native.Nat.{ℕ, zero, suc, ◌+◌, ◌*◌, ◌-◌, ◌<◌, ◌≤◌}
use native.Mathlib.Omega.{arith}
use native.Mathlib.Decide.{ℕ_discrete}
use lib.ListN.{length, get_or, set, take, drop, replicate, length-append, length-drop, length-map, length-replicate, length-set, get_or-append, get_or-eq_default}
use lib.Seq.{drop-drop, length-take-le, get_or-set_same, get_or-set_other, get_or-append-add}
use lib.Dec.{eqb}
use lib.IntN.{ℤ, pos}
use borrow.Author.Tests.{le-leb, lt-leb, eq-eqb, ne_eqb}
use Rattle.std.specs.Prelude.{Option, Some, None}
use Rattle.std.proofs.lemmas.List.{drop-replicate, get_or-take, get_or-drop}
use Rattle.std.specs.Bool.{then_some}
use Rattle.calculus.specs.Limits.{most_sets}
use Rattle.calculus.specs.Reading.{Parsed, parsed, refused, ◌>>=◌, ask, words, ascending}
use Rattle.calculus.specs.Encoding.{Handed}
use Rattle.calculus.specs.Check.{count, numbers, member_lists}
use Rattle.calculus.proofs.Words.{words_length}
use Rattle.slices.specs.Bytes.{word_at, places_from, filled}
use Rattle.slices.proofs.Parts.{filled_at}
use Rattle.slices.proofs.TwoBytes.{word_read}
use Rattle.assignment.specs.declared.Assignment.{Assignment}
use Rattle.assignment.specs.Laid.{read_handed, members_of, MembersRead, member_bytes, starts_of, members_at, MembersStand, Pairs, part_of, PartsOf, Lays}

-- ---- a count, numbers, a set's members

count_none : (bs : List ℕ) → length bs ≡ 0 → count bs ≡ refused 14
unfolding count
count_none [] e = refl
count_none (b ∷ bs) e = absurd (omega arith)

numbers_short : (n : ℕ) (bs : List ℕ) → length bs < 2 * n → numbers n bs ≡ refused 14
unfolding numbers
numbers_short n bs h = rw (lt-leb (2 * n) (length bs) h)

numbers_there : (n : ℕ) (bs : List ℕ) → 2 * n ≤ length bs → numbers n bs ≡ parsed (words (take (2 * n) bs), drop (2 * n) bs)
unfolding numbers
numbers_there n bs h = rw (le-leb (2 * n) (length bs) h)

pub members_none : (bs : List ℕ) → length bs ≡ 0 → members_of bs ≡ refused 14
unfolding members_of ◌>>=◌
members_none bs e = rw (count_none bs e)

pub members_short : (n : ℕ) (bs : List ℕ) → length bs < 2 * n → members_of (n ∷ bs) ≡ refused 14
unfolding members_of count ◌>>=◌
members_short n bs h = rw (numbers_short n bs h)

-- a count and the bytes of as many members, which ascend, or not
module _ (bs : List ℕ) (n : ℕ) (rest part after : List ℕ) (e : bs ≡ n ∷ rest) (there : 2 * n ≤ length rest) (p : part ≡ take (2 * n) rest) (q : after ≡ drop (2 * n) rest) (t : Bool) (r : t ≡ ascending (words part)) where
  order : ascending (words (take (2 * n) rest)) ≡ t
  order = ap (λ (x : List ℕ). ascending (words x)) (sym p) ∙ sym r

  pub members_unordered : t ≡ false → members_of bs ≡ refused 14
  unfolding members_of count ◌>>=◌ ask
  members_unordered f = rw (e, numbers_there n rest there, order, f)

  read_there : t ≡ true → members_of bs ≡ parsed (words part, after)
  unfolding members_of count ◌>>=◌ ask
  read_there f = rw (e, p, q, numbers_there n rest there, order, f) refl

  pub members_there : t ≡ true → MembersRead bs part after
  members_there f =
      let w : length (words part) ≡ n = words_length n part (ap length p ∙ length-take-le (2 * n) rest there) in
      rw w (rw e (omega arith), rw e p, q ∙ rw e (drop-drop (2 * n) 1 (n ∷ rest)), read_there f)

-- of members that stand so there are two bytes each
pub members_read : (bs part after : List ℕ) → MembersRead bs part after → (length part ≡ 2 * length (words part)) × (members_of bs ≡ parsed (words part, after))
members_read bs part after h = (ap length h.1 ∙ length-take-le (2 * length (words part)) (drop 1 bs) (omega (arith, h.0, length-drop 1 bs)), h.3)

-- number i of the values, which follow the count byte
word_in : (bs : List ℕ) (n i : ℕ) → i < n → word_at (take (2 * n) (drop 1 bs)) (2 * i) ≡ word_at bs (1 + 2 * i)
word_in bs n i l = let e : 1 + (2 * i + 1) ≡ 1 + 2 * i + 1 = omega arith in rw (byte_in (2 * i) (omega arith), byte_in (2 * i + 1) (omega arith), e) refl
  where
    byte_in : (j : ℕ) → j < 2 * n → get_or (take (2 * n) (drop 1 bs)) j 0 ≡ get_or bs (1 + j) 0
    byte_in j h = get_or-take (2 * n) (drop 1 bs) j 0 h ∙ get_or-drop 1 bs j 0

-- ---- the sets that are left

-- the sets last read are put after the sets xss, and no byte is left
abbrev complete : List ℤ → List (List ℤ) → List (List ℤ) × List ℕ → Parsed Handed
complete xs xss ls = ask 14 (eqb (length ls.1) 0) >>= λ _. parsed (record { numbers = xs; sets = xss ++ ls.0 })

-- s sets are read, after the sets xss
abbrev read_on : ℕ → List ℕ → List ℤ → List (List ℤ) → Parsed Handed
read_on s bs xs xss = member_lists s bs >>= complete xs xss

-- a set before those last read
abbrev before : List ℤ → List (List ℤ) × List ℕ → Parsed (List (List ℤ) × List ℕ)
before ys ls = parsed (ys ∷ ls.0, ls.1)

-- what follows a set's members, of s sets more
abbrev after : ℕ → List ℤ × List ℕ → Parsed (List (List ℤ) × List ℕ)
after s p = member_lists s p.1 >>= before p.0

-- the sets are read one by one
one_by_one : (s : ℕ) (bs : List ℕ) → member_lists (suc s) bs ≡ (members_of bs >>= after s)
unfolding members_of ◌>>=◌ ask
one_by_one s bs = first (count bs)
  where
    third : (t : Bool) (p : List ℤ × List ℕ) → (ask 14 t >>= λ _. after s p) ≡ ((ask 14 t >>= λ _. parsed p) >>= after s)
    third true p = refl
    third false p = refl

    second : (m : Parsed (List ℤ × List ℕ)) → (m >>= λ p. ask 14 (ascending p.0) >>= λ _. after s p) ≡ ((m >>= λ p. ask 14 (ascending p.0) >>= λ _. parsed p) >>= after s)
    second (parsed p) = third (ascending p.0) p
    second (refused n) = refl

    first : (m : Parsed (ℕ × List ℕ)) → (m >>= λ c. numbers c.0 c.1 >>= λ p. ask 14 (ascending p.0) >>= λ _. after s p) ≡ ((m >>= λ c. numbers c.0 c.1 >>= λ p. ask 14 (ascending p.0) >>= λ _. parsed p) >>= after s)
    first (parsed c) = second (numbers c.0 c.1)
    first (refused n) = refl

module _ (bs : List ℕ) (s k : ℕ) (l : k < s) (xs : List ℤ) (xss : List (List ℤ)) where
  one_more : s - k ≡ suc (s - (k + 1))
  one_more = omega arith

  stop : members_of bs ≡ refused 14 → read_on (s - k) bs xs xss ≡ refused 14
  unfolding ◌>>=◌
  stop e = rw (one_more, one_by_one (s - (k + 1)) bs, e)

  go_on : (ys : List ℤ) (rest : List ℕ) → members_of bs ≡ parsed (ys, rest) → read_on (s - k) bs xs xss ≡ read_on (s - (k + 1)) rest xs (xss ++ (ys ∷ []))
  unfolding ◌>>=◌
  go_on ys rest e = rw (one_more, one_by_one (s - (k + 1)) bs, e) (go (member_lists (s - (k + 1)) rest))
    where
      go : (m : Parsed (List (List ℤ) × List ℕ)) → ((m >>= before ys) >>= complete xs xss) ≡ (m >>= complete xs (xss ++ (ys ∷ [])))
      go (parsed ls) = ap (λ (x : List (List ℤ)). ask 14 (eqb (length ls.1) 0) >>= λ _. parsed (record { numbers = xs; sets = x })) (sym (append_assoc xss (ys ∷ []) ls.0))
      go (refused n) = refl

-- no set is left
module _ (bs : List ℕ) (s k : ℕ) (l : s ≤ k) (xs : List ℤ) (xss : List (List ℤ)) where
  none_left : s - k ≡ 0
  none_left = omega arith

  stop_over : ¬ (length bs ≡ 0) → read_on (s - k) bs xs xss ≡ refused 14
  unfolding ◌>>=◌ ask
  stop_over h = rw (none_left, ne_eqb (length bs) 0 h)

  all_read : length bs ≡ 0 → read_on (s - k) bs xs xss ≡ parsed (record { numbers = xs; sets = xss })
  unfolding ◌>>=◌ ask
  all_read h = rw (none_left, eq-eqb (length bs) 0 h, append-nil xss)

-- ---- from the start

module _ (n s : ℕ) where
  pub no_count : (bs : List ℕ) → length bs ≡ 0 → read_handed n s bs ≡ refused 14
  unfolding read_handed ◌>>=◌
  no_count bs e = rw (count_none bs e)

  module _ (c : ℕ) (bs : List ℕ) where
    pub other_count : ¬ (c ≡ n) → read_handed n s (c ∷ bs) ≡ refused 14
    unfolding read_handed count ◌>>=◌ ask
    other_count e = rw (ne_eqb c n e)

    module _ (e : c ≡ n) where
      pub no_values : length bs < 2 * n → read_handed n s (c ∷ bs) ≡ refused 14
      unfolding read_handed count ◌>>=◌ ask
      no_values h = rw (eq-eqb c n e, e, numbers_short n bs h)

      values_read : 2 * n ≤ length bs → read_handed n s (c ∷ bs) ≡ read_on s (drop (2 * n) bs) (words (take (2 * n) bs)) []
      unfolding read_handed count ◌>>=◌ ask
      values_read h = rw (eq-eqb c n e, e, numbers_there n bs h)

-- ---- the parts, wherever they stand

-- the bytes are an assignment, with these parts
abbrev pub ReadInto : (bs : List ℕ) (n s : ℕ) → Assignment → Type 0
ReadInto bs n s a = (g : Handed) × (read_handed n s bs ≡ parsed g) × PartsOf n s g a

-- those that stand in the bytes are so
pub read_into : (bs : List ℕ) (n s : ℕ) (a : Assignment) → Lays bs n s (Some a) → ReadInto bs n s a
read_into bs n s a h = (h.0, h.1, h.2.parts)

-- ---- the loop over the sets

-- where the members of a next set begin
abbrev next_at : ℕ → List (List ℤ) → ℕ
next_at at [] = at
next_at at (xs ∷ xss) = next_at (at + member_bytes xs) xss

next_more : (at : ℕ) (xss : List (List ℤ)) (ys : List ℤ) → next_at at (xss ++ (ys ∷ [])) ≡ next_at at xss + member_bytes ys
next_more at [] ys = refl
next_more at (xs ∷ xss) ys = next_more (at + member_bytes xs) xss ys

starts_more : (at : ℕ) (xss : List (List ℤ)) (ys : List ℤ) → places_from member_bytes at (xss ++ (ys ∷ [])) ≡ places_from member_bytes at xss ++ (next_at at xss ∷ [])
unfolding places_from
starts_more at [] ys = refl
starts_more at (xs ∷ xss) ys = ap (λ (l : List ℕ). at ∷ l) (starts_more (at + member_bytes xs) xss ys)

places_length : (at : ℕ) (xss : List (List ℤ)) → length (places_from member_bytes at xss) ≡ length xss
unfolding places_from
places_length at [] = refl
places_length at (xs ∷ xss) = ap suc (places_length (at + member_bytes xs) xss)

-- the part after the count byte at a place
pub part_is : (bs : List ℕ) (at c : ℕ) → take (2 * c) (drop 1 (drop at bs)) ≡ take (2 * c) (drop (at + 1) bs)
part_is bs at c = ap (take (2 * c)) (drop-drop 1 at bs)

-- set A, of the sets xss, stands in the bytes, and its members are this part
abbrev Member : List ℕ → ℕ → List (List ℤ) → ℕ → List ℕ → Type 0
Member bs n xss A part = MembersStand bs n xss A × (part ≡ members_at bs n xss A)

-- the last of the sets
last_set : (xss : List (List ℤ)) (ys : List ℤ) (k : ℕ) → length xss ≡ k → get_or (xss ++ (ys ∷ [])) k [] ≡ ys
last_set xss ys k e = let p : k ≡ length xss + 0 = omega (arith, e) in ap (λ (x : ℕ). get_or (xss ++ (ys ∷ [])) x []) p ∙ get_or-append-add xss (ys ∷ []) 0 []

-- k of s sets are read, into these parts, and what is left
pub record SoFar (bs : List ℕ) (n s : ℕ) (values : List ℕ) (parts : List (List ℕ)) (k : ℕ) (rest : List ℕ) : Type 0 where
  pub sets : List (List ℤ)
  pub many : length sets ≡ k
  pub long : length parts ≡ s
  pub stand : (A : ℕ) → A < k → Pairs (get_or parts A []) (get_or sets A [])
  pub left : read_handed n s bs ≡ read_on (s - k) rest (words values) sets

-- before the first set
pub start : (n s c : ℕ) (bs tail values rest : List ℕ) (parts : List (List ℕ)) → bs ≡ c ∷ tail → c ≡ n → 2 * n ≤ length tail → values ≡ take (2 * n) tail → rest ≡ drop (2 * n) tail → length parts ≡ s → SoFar bs n s values parts 0 rest
start n s c bs tail values rest parts b e h v r p = record {
  sets = [];
  many = refl;
  long = p;
  stand = λ A z. absurd (omega arith);
  left = let z : s - 0 ≡ s = omega arith in rw (z, b, v, r) (values_read n s c tail e h);
}

module _ {bs : List ℕ} {n s : ℕ} {values : List ℕ} {parts : List (List ℕ)} {k : ℕ} {rest : List ℕ} (so : SoFar bs n s values parts k rest) where
  -- a set is left: it cannot be read, or it is
  module _ (l : k < s) where
    pub no_set : members_of rest ≡ refused 14 → read_handed n s bs ≡ refused 14
    no_set h = so.left ∙ stop rest s k l (words values) so.sets h

    pub set_read : (part after : List ℕ) → (length part ≡ 2 * length (words part)) × (members_of rest ≡ parsed (words part, after)) → SoFar bs n s values (set parts k part) (k + 1) after
    set_read part after h = record {
      sets = so.sets ++ (words part ∷ []);
      many = omega (arith, length-append so.sets (words part ∷ []), so.many);
      long = omega (arith, length-set parts k part, so.long);
      stand = λ A z. stands A z (ℕ_discrete A k);
      left = so.left ∙ go_on rest s k l (words values) so.sets (words part) after h.1;
    }
      where
        stands : (A : ℕ) → A < k + 1 → Dec (A ≡ k) → Pairs (get_or (set parts k part) A []) (get_or (so.sets ++ (words part ∷ [])) A [])
        stands A z (yes q) = rw (q, get_or-set_same parts k part [] (omega (arith, so.long)), last_set so.sets (words part) k so.many) (h.0, refl)
        stands A z (no q) =
            rw (get_or-set_other parts k A part [] q, get_or-append so.sets (words part ∷ []) [] A (omega (arith, so.many))) (so.stand A (omega arith))

  -- no set is left
  module _ (l : s ≤ k) where
    pub left_over : ¬ (length rest ≡ 0) → read_handed n s bs ≡ refused 14
    left_over h = so.left ∙ stop_over rest s k l (words values) so.sets h

    pub laid_out : (a : Assignment) → a.values.now ≡ values → map (λ m. m.now) a.members ≡ filled [] most_sets parts → length values ≡ 2 * n → length rest ≡ 0 → ReadInto bs n s a
    laid_out a v p g h = (
      record { numbers = words values; sets = so.sets },
      so.left ∙ all_read rest s k l (words values) so.sets h,
      record {
        many = words_length n values g;
        values_are = rw v (omega (arith, g, words_length n values g), refl);
        members_are = λ A z. rw (p, filled_at {A = List ℕ} [] most_sets parts A) (so.stand A (omega arith));
        beyond = λ A z. rw (p, filled_at {A = List ℕ} [] most_sets parts A) (get_or-eq_default parts [] (omega (arith, so.long)));
      },
    )

-- ---- and where in the bytes they stand

-- they stand there too, and what is left begins at a place
pub record Standing (bs : List ℕ) (n s : ℕ) (values : List ℕ) (parts : List (List ℕ)) (k : ℕ) (rest : List ℕ) : Type 0 where
  pub so_far : SoFar bs n s values parts k rest
  pub values_stand : (1 + 2 * n ≤ length bs) × (values ≡ take (2 * n) (drop 1 bs))
  pub at : ℕ
  pub place : at + 1 ≡ next_at (2 + 2 * n) so_far.sets
  pub rest_is : (at ≤ length bs) × (rest ≡ drop at bs)
  pub stand : (A : ℕ) → A < k → MembersStand bs n so_far.sets A
  pub starts_are : (A : ℕ) → A < k → get_or parts A [] ≡ members_at bs n so_far.sets A

pub start_stands : (n s c : ℕ) (bs tail values rest : List ℕ) (parts : List (List ℕ)) → bs ≡ c ∷ tail → c ≡ n → 2 * n ≤ length tail → values ≡ take (2 * n) tail → rest ≡ drop (2 * n) tail → length parts ≡ s → Standing bs n s values parts 0 rest
unfolding start
start_stands n s c bs tail values rest parts b e h v r p = record {
  so_far = start n s c bs tail values rest parts b e h v r p;
  values_stand = rw b (omega arith, v);
  at = 1 + 2 * n;
  place = omega arith;
  rest_is = rw b (omega arith, r ∙ drop-drop (2 * n) 1 (c ∷ tail));
  stand = λ A z. absurd (omega arith);
  starts_are = λ A z. absurd (omega arith);
}

module _ {bs : List ℕ} {n s : ℕ} {values : List ℕ} {parts : List (List ℕ)} {k : ℕ} {rest : List ℕ} (st : Standing bs n s values parts k rest) where
  abbrev so : SoFar bs n s values parts k rest
  so = st.so_far

  module _ (l : k < s) (part next : List ℕ) (h : MembersRead rest part next) where
    abbrev ys : List ℤ
    ys = words part

    abbrev sets_now : List (List ℤ)
    sets_now = so.sets ++ (ys ∷ [])

    there : st.at + 1 + 2 * length ys ≤ length bs
    there = omega (arith, h.0, st.rest_is.0, ap length st.rest_is.1, length-drop st.at bs)

    part_there : part ≡ take (2 * length ys) (drop (st.at + 1) bs)
    part_there = h.1 ∙ ap (λ (x : List ℕ). take (2 * length ys) (drop 1 x)) st.rest_is.1 ∙ part_is bs st.at (length ys)

    pub set_stands : Standing bs n s values (set parts k part) (k + 1) next
    unfolding set_read
    set_stands = record {
      so_far = set_read so l part next (members_read rest part next h);
      values_stand = st.values_stand;
      at = st.at + 1 + 2 * length ys;
      place = omega (arith, st.place, next_more (2 + 2 * n) so.sets ys);
      rest_is = (
        there,
        h.2 ∙ ap (drop (1 + 2 * length ys)) st.rest_is.1 ∙ drop-drop (1 + 2 * length ys) st.at bs ∙ ap (λ (x : ℕ). drop x bs) (omega arith),
      );
      stand = λ A z. (stands A z (ℕ_discrete A k)).0;
      starts_are = λ A z. (stands A z (ℕ_discrete A k)).1;
    }
      where
        stands : (A : ℕ) → A < k + 1 → Dec (A ≡ k) → Member bs n sets_now A (get_or (set parts k part) A [])
        stands A z (yes q) =
            let w : k ≡ length (starts_of n so.sets) + 0 = omega (arith, so.many, places_length (2 + 2 * n) so.sets) in
            let f : get_or (starts_of n sets_now) k 0 ≡ st.at + 1 =
            ap (λ (x : List ℕ). get_or x k 0) (starts_more (2 + 2 * n) so.sets ys)
            ∙ ap (λ (x : ℕ). get_or (starts_of n so.sets ++ (next_at (2 + 2 * n) so.sets ∷ [])) x 0) w
            ∙ get_or-append-add (starts_of n so.sets) (next_at (2 + 2 * n) so.sets ∷ []) 0 0
            ∙ sym st.place in
            rw (q, get_or-set_same parts k part [] (omega (arith, so.long)), last_set so.sets ys k so.many, f) ((there, ap words part_there), part_there)
        stands A z (no q) =
            let f : get_or (starts_of n sets_now) A 0 ≡ get_or (starts_of n so.sets) A 0 =
            ap (λ (x : List ℕ). get_or x A 0) (starts_more (2 + 2 * n) so.sets ys)
            ∙ get_or-append (starts_of n so.sets) (next_at (2 + 2 * n) so.sets ∷ []) 0 A (omega (arith, so.many, places_length (2 + 2 * n) so.sets)) in
            rw (get_or-set_other parts k A part [] q, get_or-append so.sets (ys ∷ []) [] A (omega (arith, so.many)), f) (st.stand A (omega arith), st.starts_are A (omega arith))

  module _ (l : s ≤ k) (a : Assignment) (v : a.values.now ≡ values) (p : map (λ m. m.now) a.members ≡ filled [] most_sets parts) where
    values_length : length values ≡ 2 * n
    values_length = ap length st.values_stand.1 ∙ length-take-le (2 * n) (drop 1 bs) (omega (arith, st.values_stand.0, length-drop 1 bs))

    part_at : (A : ℕ) → part_of a A ≡ get_or parts A []
    part_at A = ap (λ (x : List (List ℕ)). get_or x A []) p ∙ filled_at {A = List ℕ} [] most_sets parts A

    number_is : (i : ℕ) → i < n → get_or (words values) i (pos 0) ≡ word_at bs (1 + 2 * i)
    number_is i z = word_read values i (omega (arith, values_length)) ∙ rw st.values_stand.1 (word_in bs n i z)

    pub all_stand : length rest ≡ 0 → Lays bs n s (Some a)
    unfolding laid_out
    all_stand h =
        let r : ReadInto bs n s a = laid_out so l a v p values_length h in (
          r.0,
          r.1,
          record {
            numbers_are = λ i z. (omega (arith, st.values_stand.0), number_is i z);
            members_are = λ A z. st.stand A (omega arith);
            values_stand = v ∙ st.values_stand.1;
            members_stand = λ A z. part_at A ∙ st.starts_are A (omega arith);
            parts = r.2;
          },
        )

-- ---- the sets' parts: those of the first sets are written, and the others are empty

map_same : {B : Type 0} (f : B → List ℕ) (d : B) (m : ℕ) → map f (replicate m d) ≡ replicate m (f d)
map_same f d zero = refl
map_same f d (suc m) = ap (λ (x : List (List ℕ)). f d ∷ x) (map_same f d m)

module _ {B : Type 0} (f : B → List ℕ) (d : B) (s n : ℕ) (b : s ≤ n) where
  pub unwritten : length (map f (take s (replicate n d))) ≡ s
  unwritten = length-map (take s (replicate n d)) f ∙ length-take-le s (replicate n d) (omega (arith, length-replicate n d))

  pub written : (xs : List B) → f d ≡ [] → length (map f xs) ≡ s → map f (xs ++ drop s (replicate n d)) ≡ filled [] n (map f xs)
  written xs e l = map-append f xs (drop s (replicate n d)) ∙ ap (λ (x : List (List ℕ)). map f xs ++ x) (ap (map f) (drop-replicate s n d) ∙ map_same f d (n - s) ∙ rw (e, l) refl)

-- ---- an answer where a test holds

pub where_true : {A : Type 0} (R : Option A → Type 0) (a : A) (t : Bool) → (t ≡ true → R (Some a)) → (t ≡ false → R None) → R (then_some t a)
where_true R a true f g = f refl
where_true R a false f g = g refl
