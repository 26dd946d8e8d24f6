-- What stands in a problem's bytes and in a listed record.
use mathlib.Core.Path.{◌≡◌, refl, sym, ap, ◌∙◌}
use mathlib.Core.List.{List, [], ◌∷◌, ◌++◌}
use Prim.Native.Nat.{ℕ, suc, ◌+◌, ◌*◌, ◌<◌, ◌≤◌}
use native.Mathlib.Omega.{arith}
use lib.ListN.{length, get_or, length-append, get_or-append}
use lib.Seq.{get_or-append-add}
use lib.IntN.{pos}
use borrow.Author.Tests.{lt-ltb}
use Rattle.calculus.specs.Limits.{most_sets, most_terms}
use Rattle.calculus.specs.Terms.{term}
use Rattle.calculus.specs.Problem.{Problem, constant_count, term_count, set_count}
use Rattle.calculus.specs.Reading.{Parsed, parsed, words, signed, read}
use Rattle.calculus.specs.Forms.{record_length, root_in, model_number}
use Rattle.calculus.proofs.Words.{words_length}
use Rattle.calculus.proofs.Parsers.{one, counted, answered, then, at_given}
use Rattle.calculus.proofs.Sections.{First}
use Rattle.calculus.proofs.ReadValid.{first_question, read_first}
use Rattle.calculus.proofs.RecordFields.{no_longer}
use Rattle.problem.specs.declared.table.Table.{Table}
use Rattle.problem.specs.Table.{problem_table, constant_of, values_of}
use Rattle.problem.proofs.Access.{opened, opened_sizes}
use Rattle.listing_lines.specs.declared.form.Form.{Form}
use Rattle.listing_lines.specs.Writing.{problem_of, problem_in}

-- ---- the problem

-- the table of a form's problem is that of the problem
pub record Known (f : Form) : Type 0 where
  pub reads : read f.problem.bytes.now ≡ parsed (problem_in f.problem.bytes.now)
  pub constants : f.problem.table.constants ≡ constant_count (problem_in f.problem.bytes.now)
  pub variables : f.problem.table.variables ≡ length (problem_in f.problem.bytes.now).variables
  pub sets : f.problem.table.sets ≡ set_count (problem_in f.problem.bytes.now)
  pub terms : f.problem.table.terms ≡ term_count (problem_in f.problem.bytes.now)
  pub few_sets : f.problem.table.sets ≤ most_sets
  pub few_terms : f.problem.table.terms ≤ most_terms

pub known : (f : Form) → Known f
unfolding problem_of problem_table
known f =
    let r = opened _ _ f.problem.opened in
    let z = opened_sizes _ _ f.problem.opened in
    let e : problem_in f.problem.bytes.now ≡ r.prob = ap problem_of r.reads in
    record {
      reads = rw e r.reads;
      constants = rw e (ap (λ (t : Table). t.constants) r.shows);
      variables = rw e (ap (λ (t : Table). t.variables) r.shows);
      sets = rw e (ap (λ (t : Table). t.sets) r.shows);
      terms = rw e (ap (λ (t : Table). t.terms) r.shows);
      few_sets = z.1;
      few_terms = z.2;
    }

pub few_items : (f : Form) → f.problem.table.variables + f.problem.table.sets ≤ 72
few_items f = omega (arith, known f)

-- the letters stand after the counts
pub record LettersStand (prob : Problem) (u : List ℕ) : Type 0 where
  pub variable : (i : ℕ) → i < length prob.variables → (2 + 2 * constant_count prob + i < length u) × (get_or u (2 + 2 * constant_count prob + i) 0 ≡ get_or prob.variables i 0)
  pub set : (i : ℕ) → i < set_count prob → (3 + 2 * constant_count prob + (length prob.variables + i) < length u) × (get_or u (3 + 2 * constant_count prob + (length prob.variables + i)) 0 ≡ get_or prob.sets i 0)

letters_stand : (prob : Problem) (u : List ℕ) → First prob u → LettersStand prob u
letters_stand prob u (then (one {b = k}) (then (counted {xs = ws} e₁) (answered t₃ (then (one {b = n}) (then (counted {xs = ns} e₂) (answered t₄ (then (one {b = s}) (then (counted {xs = ss} e₃) (answered t₅ (then (one {b = m}) (answered t₆ (then {a = a} {u = x} ls (answered t₁₁ w))))))))))))) =
    let g₃ : List ℕ = m ∷ (x ++ []) in
    let g₂ : List ℕ = s ∷ (ss ++ g₃) in
    let g₁ : List ℕ = n ∷ (ns ++ g₂) in
    let l : length ws ≡ 2 * length (words ws) = omega (arith, words_length k ws e₁) in
    let a₁ = length-append ws g₁ in
    let a₂ = length-append ns g₂ in
    let a₃ = length-append ss g₃ in
    at_given (λ p v. LettersStand p (k ∷ ws ++ (n ∷ ns ++ (s ∷ ss ++ (m ∷ x ++ v))))) w (record {
      variable = λ i q. let e : 2 + 2 * length (words ws) + i ≡ suc (length ws + suc i) = omega (arith, l) in (omega (arith, l, q, a₁, a₂), rw e (get_or-append-add ws g₁ (suc i) 0 ∙ get_or-append ns g₂ 0 i q));
      set = λ i q. let e : 3 + 2 * length (words ws) + (length ns + i) ≡ suc (length ws + suc (length ns + suc i)) = omega (arith, l) in (omega (arith, l, q, a₁, a₂, a₃), rw e (get_or-append-add ws g₁ (suc (length ns + suc i)) 0 ∙ get_or-append-add ns g₂ (suc i) 0 ∙ get_or-append ss g₃ 0 i q));
    })

pub letters : (f : Form) → LettersStand (problem_in f.problem.bytes.now) f.problem.bytes.now
letters f = letters_stand _ _ (read_first _ _ (first_question _ _ (known f).reads).1)

-- ---- a listed record

module _ (f : Form) (t : ℕ) (l : t < f.problem.table.terms) where
  abbrev prob : Problem
  prob = problem_in f.problem.bytes.now

  abbrev r : List ℕ
  r = f.record.now

  in_range : t < term_count prob
  in_range = omega (arith, l, (known f).terms)

  pub term_there : (t < most_terms) × (record_length (suc t) ≤ length r)
  term_there = (omega (arith, l, (known f).few_terms), omega (arith, f.shaped.shape.long, no_longer (suc t) (term_count prob) in_range))

  module _ (root : ℕ) (shown : root ≡ root_in r t) where
    pub root_low : root < most_terms
    root_low = omega (arith, shown, term_there.0, f.shaped.shape.lowest t t in_range in_range refl)

    pub constant_value : root < f.problem.table.constants → constant_of f.problem.bytes.now root ≡ model_number prob r (term t)
    unfolding constant_of values_of
    constant_value q =
        let k = known f in
        ap (λ (p : Parsed Problem). get_or (values_of p) root (pos 0)) k.reads
        ∙ sym (f.shaped.constant t root in_range (omega (arith, q, k.constants)) (ap (root_in r) shown ∙ f.shaped.shape.own t in_range))

    pub free_value : f.problem.table.constants ≤ root → signed (32001 + root) ≡ model_number prob r (term t)
    free_value q =
        let k = known f in
        rw (lt-ltb (32001 + root) 32768 (omega (arith, shown, f.shaped.most t in_range)))
        (ap (λ (h : ℕ). pos (32001 + h)) shown ∙ sym (f.shaped.free t in_range (λ i m e. omega (arith, q, shown, k.constants, m, f.shaped.shape.lowest t i in_range (omega arith) (sym e)))))
