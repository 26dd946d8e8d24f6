-- The laws of reading a problem section by section: the whole equals what is left. Assumes nothing.
use mathlib.Core.Path.{◌≡◌, refl, ap, ◌∙◌}
use mathlib.Core.Bool.{Bool, true, false}
use mathlib.Core.List.{List, [], ◌∷◌, ◌++◌}
use Prim.Native.Nat.{ℕ, ◌+◌, ◌*◌, ◌-◌, ◌/◌, ◌%◌, ◌<◌, ◌≤◌}
use native.Mathlib.Omega.{arith}
use lib.ListN.{length, length-append}
use lib.Dec.{leb, eqb}
use lib.Seq.{get_or-append_seam}
use lib.IntN.{ℤ}
use borrow.Author.Tests.{le-leb, lt-leb, leb-true, eq-eqb, ne_eqb}
use Rattle.std.specs.Prelude.{Ok, Err}
use Rattle.calculus.specs.Limits.{most_bytes, most_sets, most_constraints, most_terms}
use Rattle.calculus.specs.Meaning.{Constraint}
use Rattle.calculus.specs.Problem.{Problem, Rising, uses, Numbered}
use Rattle.calculus.specs.Encoding.{encode_constraint}
use Rattle.calculus.specs.Reading.{Parsed, parsed, refused, ◌>>=◌, ask, byte, bytes, words, in_range, letters, constraints, read_constraints, read_sets, read_variables, read_constants, read}
use Rattle.calculus.proofs.Bools.{and_l, and_r}
use Rattle.calculus.proofs.Words.{ascending_rising, words_length}
use Rattle.calculus.proofs.ConstraintLaws.{last_le}
use Rattle.calculus.proofs.ConstraintParsers.{constraints_read}
use Rattle.calculus.proofs.ReadValid.{read_short}
use Rattle.questions.specs.declared.refusal.Refusal.{Refusal}
use Rattle.questions.specs.Answers.{number_of, Answers}
use Rattle.questions.proofs.Answers.{was_parsed, was_refused}
use Rattle.slices.specs.Bytes.{filled}
use Rattle.slices.proofs.Parts.{AllBytes}
use Rattle.problem.specs.declared.table.Table.{Table}
use Rattle.problem.specs.declared.sections.Found.{Found}
use Rattle.problem.specs.Sections.{counted, section, constants_test, variables_test, sets_test, constants_section, variables_section, sets_section, SplitAs, Splits, no_line, lines_from, lines_found, found_of, FoundAs}
use Rattle.problem.specs.Table.{problem_table, table_of, Opened}
use Rattle.problem.proofs.SectionLaws.{Parts, section_is}

-- ---- a section, and what is read after it

abbrev triple : ℕ → List ℕ × List ℕ → Parsed (ℕ × List ℕ × List ℕ)
triple n b = parsed (n, b.0, b.1)

module _ {B : Type 0} (size number : ℕ) (test : ℕ → List ℕ → Bool) (f : ℕ → ℕ) (h : (n : ℕ) → f n ≡ size * n) (k : List ℕ → List ℕ → Parsed B) where
  stage : (bs : List ℕ) → (byte bs >>= λ a. bytes (f a.0) a.1 >>= λ b. ask number (test a.0 b.0) >>= λ _. k b.0 b.1) ≡ (section size number test bs >>= λ a. k a.1 a.2)
  unfolding section counted ◌>>=◌ ask
  stage bs = go (byte bs)
    where
      third : (n : ℕ) (b : List ℕ × List ℕ) (t : Bool) → (ask number t >>= λ _. k b.0 b.1) ≡ ((ask number t >>= λ _. triple n b) >>= λ a. k a.1 a.2)
      third n b true = refl
      third n b false = refl

      second : (n : ℕ) (m : Parsed (List ℕ × List ℕ)) → (m >>= λ b. ask number (test n b.0) >>= λ _. k b.0 b.1)
          ≡ (((m >>= λ b. triple n b) >>= λ x. ask number (test x.0 x.1) >>= λ _. parsed x) >>= λ a. k a.1 a.2)
      second n (parsed b) = third n b (test n b.0)
      second n (refused j) = refl

      go : (m : Parsed (ℕ × List ℕ)) → (m >>= λ a. bytes (f a.0) a.1 >>= λ b. ask number (test a.0 b.0) >>= λ _. k b.0 b.1)
          ≡ (((m >>= λ a. bytes (size * a.0) a.1 >>= λ b. triple a.0 b) >>= λ x. ask number (test x.0 x.1) >>= λ _. parsed x) >>= λ a. k a.1 a.2)
      go (parsed a) = rw (h a.0) (second a.0 (bytes (size * a.0) a.1))
      go (refused j) = refl

-- what the answer to a section tells of the whole, which is it and then k
module _ {B : Type 0} (size number : ℕ) (test : ℕ → List ℕ → Bool) (bs : List ℕ) (k : List ℕ → List ℕ → Parsed B) (whole : Parsed B) (e : whole ≡ (section size number test bs >>= λ a. k a.1 a.2)) where
  abbrev this : Parsed (ℕ × List ℕ × List ℕ)
  this = section size number test bs

  stops : (q : Refusal) → Splits size this (Err q) → whole ≡ refused (number_of q)
  unfolding ◌>>=◌
  stops q h = e ∙ rw (was_refused (SplitAs size) this q h) refl

  goes : (r : Parts) → Splits size this (Ok r) → whole ≡ k r.0.now r.1.now
  unfolding ◌>>=◌
  goes r h = go (was_parsed (SplitAs size) this r h)
    where
      go : (a : ℕ × List ℕ × List ℕ) × (this ≡ parsed a) × SplitAs size a r → whole ≡ k r.0.now r.1.now
      go w = e ∙ rw (w.1, w.2.1, w.2.2) refl

  -- the bytes are its count, its part and the rest
  found : (r : Parts) → Splits size this (Ok r) → (n : ℕ) × (bs ≡ n ∷ (r.0.now ++ r.1.now)) × (length r.0.now ≡ size * n) × (test n r.0.now ≡ true)
  found r h = go (was_parsed (SplitAs size) this r h)
    where
      go : (a : ℕ × List ℕ × List ℕ) × (this ≡ parsed a) × SplitAs size a r → (n : ℕ) × (bs ≡ n ∷ (r.0.now ++ r.1.now)) × (length r.0.now ≡ size * n) × (test n r.0.now ≡ true)
      go w = let s = section_is size number test bs w.0 w.1 in (w.0.0, rw (w.2.1, w.2.2) s.0, rw w.2.1 s.1, rw w.2.1 s.2)

once : (n : ℕ) → n ≡ 1 * n
once n = omega arith

constants_stage : (bs : List ℕ) → length bs ≤ most_bytes → read bs ≡ (constants_section bs >>= λ a. read_variables (words a.1) a.2)
unfolding read_constants
constants_stage bs l = read_short bs l ∙ stage 2 3 constants_test (λ n. 2 * n) (λ n. refl) (λ ws r. read_variables (words ws) r) bs

variables_stage : (cs : List ℤ) (bs : List ℕ) → read_variables cs bs ≡ (variables_section bs >>= λ a. read_sets cs a.1 a.2)
unfolding read_variables
variables_stage cs bs = stage 1 4 variables_test (λ n. n) once (read_sets cs) bs

sets_stage : (cs : List ℤ) (ns bs : List ℕ) → read_sets cs ns bs ≡ (sets_section bs >>= λ a. read_constraints cs ns a.1 a.2)
unfolding read_sets
sets_stage cs ns bs = stage 1 5 sets_test (λ n. n) once (read_constraints cs ns) bs

-- ---- the three sections

-- what they tell once they are read: ws are the constants' bytes, ns and ss the letters, and rest is left
pub record Three (bs ws ns ss rest : List ℕ) : Type 0 where
  pub reads : read bs ≡ read_constraints (words ws) ns ss rest
  pub rising : Rising (words ws)
  pub even : length ws ≡ 2 * length (words ws)
  pub few_constants : length (words ws) < 256
  pub few_variables : length ns < 256
  pub few_sets : length ss ≤ most_sets
  pub bytes : length bs ≡ 3 + 2 * length (words ws) + length ns + length ss + length rest

second_count : (bs ws r : List ℕ) (k n : ℕ) (more : List ℕ) → AllBytes bs → bs ≡ k ∷ (ws ++ r) → r ≡ n ∷ more → n < 256
second_count bs ws r k n more known e f = omega (arith, rw (e, f, get_or-append_seam (k ∷ ws) n more 0) at (known (length (k ∷ ws))))

module _ (bs : List ℕ) (short : length bs ≤ most_bytes) where
  pub constants_refused : (q : Refusal) → Splits 2 (constants_section bs) (Err q) → read bs ≡ refused (number_of q)
  constants_refused q h = stops 2 3 constants_test bs _ (read bs) (constants_stage bs short) q h

  module _ (c : Parts) (hc : Splits 2 (constants_section bs) (Ok c)) where
    after_constants : read bs ≡ read_variables (words c.0.now) c.1.now
    after_constants = goes 2 3 constants_test bs _ (read bs) (constants_stage bs short) c hc

    pub variables_refused : (q : Refusal) → Splits 1 (variables_section c.1.now) (Err q) → read bs ≡ refused (number_of q)
    variables_refused q h = stops 1 4 variables_test c.1.now _ (read bs) (after_constants ∙ variables_stage (words c.0.now) c.1.now) q h

    module _ (v : Parts) (hv : Splits 1 (variables_section c.1.now) (Ok v)) where
      after_variables : read bs ≡ read_sets (words c.0.now) v.0.now v.1.now
      after_variables = goes 1 4 variables_test c.1.now _ (read bs) (after_constants ∙ variables_stage (words c.0.now) c.1.now) v hv

      pub sets_refused : (q : Refusal) → Splits 1 (sets_section v.1.now) (Err q) → read bs ≡ refused (number_of q)
      sets_refused q h = stops 1 5 sets_test v.1.now _ (read bs) (after_variables ∙ sets_stage (words c.0.now) v.0.now v.1.now) q h

      pub three : AllBytes bs → (s : Parts) → Splits 1 (sets_section v.1.now) (Ok s) → Three bs c.0.now v.0.now s.0.now s.1.now
      three known s hs =
          let a = found 2 3 constants_test bs _ (read bs) (constants_stage bs short) c hc in
          let b = found 1 4 variables_test c.1.now _ (read bs) (after_constants ∙ variables_stage (words c.0.now) c.1.now) v hv in
          let d = found 1 5 sets_test v.1.now _ (read bs) (after_variables ∙ sets_stage (words c.0.now) v.0.now v.1.now) s hs in
          let k : length (words c.0.now) ≡ a.0 = words_length a.0 c.0.now a.2 in
          let a₀ : a.0 < 256 = omega (arith, rw a.1 at (known 0)) in
          let b₀ : b.0 < 256 = second_count bs c.0.now c.1.now a.0 b.0 (v.0.now ++ v.1.now) known a.1 b.1 in
          record {
            reads = goes 1 5 sets_test v.1.now _ (read bs) (after_variables ∙ sets_stage (words c.0.now) v.0.now v.1.now) s hs;
            rising = ascending_rising (words c.0.now) (and_l _ (in_range (words c.0.now)) a.3);
            even = omega arith;
            few_constants = omega arith;
            few_variables = omega arith;
            few_sets = omega (arith, leb-true d.0 most_sets (and_r (letters 65 90 s.0.now) _ d.3));
            bytes = omega (arith, ap length a.1, ap length b.1, ap length d.1, length-append c.0.now c.1.now, length-append v.0.now v.1.now, length-append s.0.now s.1.now);
          }

-- ---- after the sections: how many constraints, and each of them

-- a witness below 256 is its last byte
small_lines : (ls : List Constraint) (p w last : ℕ) → Numbered w last ls → last < 256 → lines_found p w ls ≡ lines_from p w ls
small_lines [] p w last n l = refl
small_lines (x ∷ ls) p w last n l =
    let e : w % 256 ≡ w = omega (arith, last_le ls (w + uses x) last n.1) in
    rw (e, small_lines ls (p + length (encode_constraint x)) (w + uses x) last n.1 l) refl

empty : (xs : List ℕ) → length xs ≡ 0 → xs ≡ []
empty [] e = refl
empty (x ∷ xs) e = absurd (omega arith)

module _ (bs ws ns ss left : List ℕ) (t : Three bs ws ns ss left) where
  pub no_constraint_count : length left ≡ 0 → read bs ≡ refused 2
  unfolding read_constraints ◌>>=◌ byte
  no_constraint_count e = t.reads ∙ rw (empty left e) refl

  module _ (m : ℕ) (rest : List ℕ) (e : left ≡ m ∷ rest) where
    pub half : length ws / 2 ≡ length (words ws)
    half = omega (arith, t.even)

    pub many_constraints : most_constraints < m → read bs ≡ refused 6
    unfolding read_constraints ◌>>=◌ ask byte
    many_constraints l = t.reads ∙ rw (e, lt-leb m most_constraints l) refl

    -- the next witness is numbered by the nameable terms, half as many as the constants' bytes and the variables
    abbrev pub nameable : ℕ
    nameable = length ws / 2 + length ns

    abbrev at : ℕ
    at = length bs - length rest

    abbrev all : Parsed (List Constraint × ℕ × List ℕ)
    all = constraints (words ws) nameable (length ss) nameable m rest

    module _ (few : m ≤ most_constraints) where
      abbrev made : List Constraint → ℕ → Problem
      made ls w = record { constants = words ws; variables = ns; sets = ss; witnesses = w - (length (words ws) + length ns); constraints = ls }

      whole_is : read bs ≡ (all >>= λ a. ask 10 (eqb (length a.2) 0) >>= λ _. ask 11 (leb a.1 most_terms) >>= λ _. parsed (made a.0 a.1))
      unfolding read_constraints ◌>>=◌ ask byte
      whole_is = t.reads ∙ rw (e, le-leb m most_constraints few, half) refl

      pub constraint_refused : (q : Refusal) → Answers (FoundAs at nameable (length rest)) all (Err q) → read bs ≡ refused (number_of q)
      unfolding ◌>>=◌
      constraint_refused q h = whole_is ∙ rw (was_refused (FoundAs at nameable (length rest)) all q h) refl

      module _ (f : Found) (a : List Constraint × ℕ × List ℕ) (reads : all ≡ parsed a) (shows : FoundAs at nameable (length rest) a f) where
        length_is : f.length ≡ length rest - length a.2
        unfolding found_of
        length_is = ap (λ (x : Found). x.length) shows

        terms_is : f.terms ≡ a.1
        unfolding found_of
        terms_is = ap (λ (x : Found). x.terms) shows

        written : (length a.0 ≡ m) × Numbered nameable a.1 a.0 × (length a.2 ≤ length rest)
        written =
            let g = (constraints_read (words ws) nameable (length ss) t.rising (omega (arith, half)) m nameable).wrote rest a reads in
            let y : g.0.0 ≡ a.0 = cc g.4 in
            let w : g.0.1 ≡ a.1 = cc g.4 in
            let z : g.2 ≡ a.2 = cc g.4 in
            (rw y at g.5.0, rw (y, w) at g.5.3, omega (arith, ap length g.3, length-append g.1 g.2, ap length z))

        is_left_over : f.length < length rest → read bs ≡ refused 10
        unfolding ◌>>=◌ ask
        is_left_over o = whole_is ∙ rw (reads, ne_eqb (length a.2) 0 (λ (x : length a.2 ≡ 0). omega (arith, length_is))) refl

        module _ (o : length rest ≤ f.length) where
          none_left : length a.2 ≡ 0
          none_left = omega (arith, length_is, written.2)

          has_many_terms : most_terms < f.terms → read bs ≡ refused 11
          unfolding ◌>>=◌ ask
          has_many_terms l = whole_is ∙ rw (reads, eq-eqb (length a.2) 0 none_left, lt-leb a.1 most_terms (omega (arith, terms_is))) refl

          is_accepted : f.terms ≤ most_terms → (prob : Problem) × (read bs ≡ parsed prob)
              × ◌≡◌ {A = Table} (record { constants = length ws / 2; variables = length ns; sets = length ss; constraints = m; terms = f.terms; lines = f.lines }) (problem_table prob)
          unfolding ◌>>=◌ ask problem_table found_of
          is_accepted l =
              let g : at ≡ 4 + 2 * length (words ws) + length ns + length ss = omega (arith, t.bytes, ap length e) in
              let n : f.terms ≡ length (words ws) + length ns + (a.1 - (length (words ws) + length ns)) = omega (arith, terms_is, half, last_le a.0 nameable a.1 written.1) in
              let s : f.lines ≡ filled no_line most_constraints (lines_from at nameable a.0) = ap (λ (x : Found). x.lines) shows ∙ ap (filled no_line most_constraints) (small_lines a.0 at nameable a.1 written.1 (omega (arith, terms_is))) in (
                made a.0 a.1,
                whole_is ∙ rw (reads, eq-eqb (length a.2) 0 none_left, le-leb a.1 most_terms (omega (arith, terms_is))) refl,
                rw (s, n, g, half, written.0) refl,
              )

      module _ (f : Found) (h : Answers (FoundAs at nameable (length rest)) all (Ok f)) where
        told : (a : List Constraint × ℕ × List ℕ) × (all ≡ parsed a) × FoundAs at nameable (length rest) a f
        told = was_parsed (FoundAs at nameable (length rest)) all f h

        pub left_over : f.length < length rest → read bs ≡ refused 10
        left_over = is_left_over f told.0 told.1 told.2

        pub many_terms : length rest ≤ f.length → most_terms < f.terms → read bs ≡ refused 11
        many_terms = has_many_terms f told.0 told.1 told.2

        pub accepted : length rest ≤ f.length → f.terms ≤ most_terms → (prob : Problem) × (read bs ≡ parsed prob)
            × ◌≡◌ {A = Table} (record { constants = length ws / 2; variables = length ns; sets = length ss; constraints = m; terms = f.terms; lines = f.lines }) (problem_table prob)
        accepted = is_accepted f told.0 told.1 told.2

pub opens : (bs : List ℕ) (prob : Problem) (tab : Table) → read bs ≡ parsed prob → tab ≡ problem_table prob → Opened bs tab
unfolding table_of
opens bs prob tab e t = rw (e, t) refl
