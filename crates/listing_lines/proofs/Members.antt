-- The members of a set, one by one.
use mathlib.Core.Path.{◌≡◌, refl, sym, ap, ◌∙◌, subst}
use mathlib.Core.Bool.{Bool, true, false, cond}
use mathlib.Core.List.{List, [], ◌∷◌, ◌++◌, map, append-nil, map-append}
use Prim.Native.Nat.{ℕ, zero, suc, ◌+◌, ◌≤◌}
use native.Mathlib.Omega.{arith}
use native.Mathlib.Nat.{add-zero, zero-add}
use native.Mathlib.Numerals.{add-one}
use lib.ListN.{length}
use lib.IntN.{ℤ}
use Rattle.calculus.specs.Lists.{up_from, keep}
use Rattle.calculus.specs.Terms.{Term, term, set_var, terms_from}
use Rattle.calculus.specs.Problem.{Problem, term_count}
use Rattle.calculus.specs.Forms.{model_number, model}
use Rattle.text.specs.declared.Text.{Text}
use Rattle.text.specs.Text.{number, separated, braces, led, Says}
use Rattle.text.proofs.Texts.{says_more}
use Rattle.text.proofs.Separating.{separated_more, all_long}
use Rattle.listing_lines.specs.Writing.{inside_at, member_text}

up_more : (s n : ℕ) → up_from s (suc n) ≡ up_from s n ++ ((s + n) ∷ [])
up_more s zero = rw (add-zero s) refl
up_more s (suc n) = let e : suc s + n ≡ s + suc n = omega arith in ap (λ (l : List ℕ). s ∷ l) (up_more (suc s) n ∙ ap (λ (k : ℕ). up_from (suc s) n ++ (k ∷ [])) e)

keep_append : (p : Term → Bool) (xs ys : List Term) → keep p (xs ++ ys) ≡ keep p xs ++ keep p ys
keep_append p [] ys = refl
keep_append p (x ∷ xs) ys = go (p x) (keep_append p xs ys)
  where
    go : (b : Bool) → keep p (xs ++ ys) ≡ keep p xs ++ keep p ys → cond b (x ∷ keep p (xs ++ ys)) (keep p (xs ++ ys)) ≡ cond b (x ∷ keep p xs) (keep p xs) ++ keep p ys
    go true e = ap (λ (l : List Term). x ∷ l) e
    go false e = e

pub no_member : (prob : Problem) (r : List ℕ) (A t start end : ℕ) → inside_at r A t ≡ false → member_text prob r A t start end ≡ []
unfolding member_text
no_member prob r A t start end e = rw e refl

pub a_member : (prob : Problem) (r : List ℕ) (A t start end : ℕ) → inside_at r A t ≡ true → member_text prob r A t start end ≡ led 44 start end ++ number (model_number prob r (term t))
unfolding member_text
a_member prob r A t start end e = rw e refl

module _ (prob : Problem) (r : List ℕ) (A : ℕ) where
  -- the members among the first terms, and their text
  abbrev pub first_members : ℕ → List ℤ
  first_members t = map (model_number prob r) (keep (λ (u : Term). inside_at r A u.index) (terms_from 0 t))

  unfoldable pub members_text : ℕ → List ℕ
  members_text t = separated 44 (map number (first_members t))

  pub no_members : members_text 0 ≡ []
  unfolding members_text
  no_members = refl

  pub all_members : braces ((model prob r).members (set_var A)) ≡ 123 ∷ (members_text (term_count prob) ++ (125 ∷ []))
  unfolding members_text
  all_members = refl

  one_more : (t : ℕ) → first_members (suc t) ≡ first_members t ++ cond (inside_at r A t) (model_number prob r (term t) ∷ []) []
  one_more t =
      let p : Term → Bool = λ (u : Term). inside_at r A u.index in
      let e : terms_from 0 (suc t) ≡ terms_from 0 t ++ (term t ∷ []) = ap (map term) (up_more 0 t ∙ ap (λ (k : ℕ). up_from 0 t ++ (k ∷ [])) (zero-add t)) ∙ map-append term (up_from 0 t) (t ∷ []) in
      ap (λ (l : List Term). map (model_number prob r) (keep p l)) e
      ∙ ap (map (model_number prob r)) (keep_append p (terms_from 0 t) (term t ∷ []))
      ∙ map-append (model_number prob r) (keep p (terms_from 0 t)) (keep p (term t ∷ []))
      ∙ go (inside_at r A t)
    where
      go : (b : Bool) → first_members t ++ map (model_number prob r) (cond b (term t ∷ []) []) ≡ first_members t ++ cond b (model_number prob r (term t) ∷ []) []
      go true = refl
      go false = refl

  pub members_more : (t start : ℕ) → members_text (suc t) ≡ members_text t ++ member_text prob r A t start (start + length (members_text t))
  unfolding members_text member_text
  members_more t start =
      ap (λ (l : List ℤ). separated 44 (map number l)) (one_more t) ∙ go (inside_at r A t)
    where
      go : (b : Bool) → separated 44 (map number (first_members t ++ cond b (model_number prob r (term t) ∷ []) [])) ≡ separated 44 (map number (first_members t)) ++ cond b (led 44 start (start + length (separated 44 (map number (first_members t)))) ++ number (model_number prob r (term t))) []
      go true = ap (separated 44) (map-append number (first_members t) (model_number prob r (term t) ∷ [])) ∙ separated_more 44 start (map number (first_members t)) (number (model_number prob r (term t))) (all_long (first_members t))
      go false = ap (λ (l : List ℤ). separated 44 (map number l)) (append-nil (first_members t)) ∙ sym (append-nil (separated 44 (map number (first_members t))))

  pub member_step : (t : ℕ) {a b c : Text} → a.end ≤ length a.buffer.now → Says a (members_text t) b → Says b (member_text prob r A t a.end b.end) c → Says a (members_text (t + 1)) c
  member_step t {a} {b} {c} l v w =
      let m : members_text t ++ member_text prob r A t a.end b.end ≡ members_text (t + 1) = ap (λ (x : ℕ). members_text t ++ member_text prob r A t a.end x) v.ends ∙ sym (members_more t a.end) ∙ ap members_text (sym (add-one t)) in
      subst (λ (x : List ℕ). Says a x c) m (says_more l v w)
