-- A run that ends lists every form, and the problem's solutions are those of the listed records.
use mathlib.Core.Path.{◌≡◌, refl, sym, ◌∙◌, ap, subst}
use mathlib.Core.Logic.{◌↔◌}
use mathlib.Core.Bool.{true, false, false≢true}
use mathlib.Core.List.{List, [], ◌∷◌, map}
use Prim.Native.Nat.{ℕ, suc, ◌*◌}
use lib.ListN.{length, take}
use lib.Seq.{take_at, drop_at, take-length}
use Rattle.calculus.specs.Lists.{bit, Some, here, there}
use Rattle.calculus.specs.Meaning.{Valuation}
use Rattle.calculus.specs.Branch.{Branch, start, inside, outside}
use Rattle.calculus.specs.Terms.{term}
use Rattle.calculus.specs.Problem.{Problem, term_count, set_count, constant_terms, Assignment, values, Satisfies, Valid}
use Rattle.calculus.specs.Forms.{record_of, record_length, listed_forms, Agrees, SatisfiesForm}
use Rattle.calculus.specs.Run.{Event, log, DONE, tally, run}
use Rattle.calculus.proofs.BranchForms.{forms_of, problem_forms, AgreesBranch, SatisfiesBranch}
use Rattle.calculus.proofs.Solutions.{solutions}
use Rattle.calculus.proofs.Tallying.{tally_by}
use Rattle.calculus.proofs.RecordFields.{record_is_long, root_shown, inside_shown, outside_shown}

-- ---- a form and its record say the same
module _ (n : ℕ) (v : Valuation) (b : Branch) where
  pub agrees_record : AgreesBranch n v b → Agrees n v (record_of n b)
  unfolding inside outside
  agrees_record a = record {
    merges = λ t l. a.merges t l ∙ ap (λ (x : ℕ). v.num (term x)) (sym (root_shown b n t l));
    insides = λ t A l e. a.insides t A l (ap (λ (x : ℕ). bit x A.index) (sym (inside_shown b n t l)) ∙ e);
    outsides = λ t A l e. a.outsides t A l (ap (λ (x : ℕ). bit x A.index) (sym (outside_shown b n t l)) ∙ e);
  }

  pub record_agrees : Agrees n v (record_of n b) → AgreesBranch n v b
  unfolding inside outside
  record_agrees a = record {
    merges = λ t l. a.merges t l ∙ ap (λ (x : ℕ). v.num (term x)) (root_shown b n t l);
    insides = λ t A l e. a.insides t A l (ap (λ (x : ℕ). bit x A.index) (inside_shown b n t l) ∙ e);
    outsides = λ t A l e. a.outsides t A l (ap (λ (x : ℕ). bit x A.index) (outside_shown b n t l) ∙ e);
  }

-- ---- what a run lists: however it ended, the first forms of its log; at its end all

module _ (n : ℕ) where
  pub lists : (es : List Event) (l q : ℕ) → listed_forms n (tally n l q es).forms (tally n l q es).records ≡ map (record_of n) (take (tally n l q es).forms (forms_of es))
  lists =
      tally_by n (λ l q es t. listed_forms n t.forms t.records ≡ map (record_of n) (take t.forms (forms_of es))) (λ _ _. refl)
      (λ b es l q t _ ih. rw (take_at (record_of n b) t.records (record_length n) (record_is_long b n), drop_at (record_of n b) t.records (record_length n) (record_is_long b n)) (ap (λ (rs : List (List ℕ)). record_of n b ∷ rs) ih))
      (λ _ _ _ _ _. refl) (λ _ _ _. refl) (λ _ _ _ _ _ ih. ih)

  done_all : (es : List Event) (l q : ℕ) → (tally n l q es).end ≡ DONE → (tally n l q es).forms ≡ length (forms_of es)
  done_all =
      tally_by n (λ l q es t. t.end ≡ DONE → t.forms ≡ length (forms_of es)) (λ _ _ _. refl) (λ _ _ _ _ _ _ ih e. ap suc (ih e))
      (λ _ _ _ _ _ e. let w : false ≡ true = cc in absurd (false≢true w)) (λ _ _ _ e. let w : false ≡ true = cc in absurd (false≢true w)) (λ _ _ _ _ _ ih. ih)

module _ (prob : Problem) (g : Assignment) where
  to_record : (bs : List Branch) → Some (SatisfiesBranch prob g) bs → Some (SatisfiesForm prob g) (map (record_of (term_count prob)) bs)
  to_record bs (here {x = b} m) = here (m.0, agrees_record (term_count prob) (values prob g m.0) b m.1, m.2)
  to_record bs (there {xs = cs} s) = there (to_record cs s)

  from_record : (bs : List Branch) → Some (SatisfiesForm prob g) (map (record_of (term_count prob)) bs) → Some (SatisfiesBranch prob g) bs
  from_record [] s = elim s [ ]
  from_record (b ∷ bs) (here m) = here (m.0, record_agrees (term_count prob) (values prob g m.0) b m.1, m.2)
  from_record (b ∷ bs) (there s) = there (from_record bs s)

-- the whole run: an assignment satisfies the problem exactly where it satisfies one of the records listed
pub run_solutions : (prob : Problem) → Valid prob → (budget room : ℕ) → (run prob budget room).end ≡ DONE → (g : Assignment)
    → Satisfies prob g ↔ Some (SatisfiesForm prob g) (listed_forms (term_count prob) (run prob budget room).forms (run prob budget room).records)
unfolding run
run_solutions prob acc budget room e g =
    let es : List Event = log (term_count prob) (constant_terms prob) prob.constraints (term_count prob * suc (set_count prob)) (start (term_count prob)) in
    let n : ℕ = term_count prob in
    let z : map (record_of n) (problem_forms prob) ≡ listed_forms n (run prob budget room).forms (run prob budget room).records
    = sym (lists n es budget room ∙ ap (λ (c : ℕ). map (record_of n) (take c (forms_of es))) (done_all n es budget room e) ∙ ap (map (record_of n)) (take-length (forms_of es))) in (
      (λ h. subst (Some (SatisfiesForm prob g)) z (to_record prob g (problem_forms prob) ((solutions prob acc g).0 h))),
      (λ s. (solutions prob acc g).1 (from_record prob g (problem_forms prob) (subst (Some (SatisfiesForm prob g)) (sym z) s))),
    )
