-- The lines of a listing, from a run's answer word and form buffer.
use mathlib.Core.Path.{◌≡◌, refl, sym, ap, ◌∙◌, subst}
use mathlib.Core.List.{List, [], ◌∷◌, map}
use Prim.Native.Nat.{ℕ, zero, suc, ◌+◌, ◌-◌, ◌*◌, ◌/◌, ◌<◌, ◌≤◌}
use native.Mathlib.Omega.{arith}
use native.Mathlib.Nat.{mul-zero, mul-suc, mul_comm, mul-le-mul_left, le_of_suc-le-suc}
use lib.ListN.{length, get_or, take, drop, replicate, length-map, length-replicate, get_or-eq_default}
use lib.Seq.{drop-drop}
use Rattle.calculus.specs.Problem.{Problem, term_count}
use Rattle.calculus.specs.Reading.{Parsed, parsed, refused, read}
use Rattle.calculus.specs.Forms.{record_length, listed_forms}
use Rattle.calculus.specs.Calls.{Answer, refusal, ended, answer_word}
use Rattle.calculus.proofs.AnswerLaws.{answers}
use Rattle.calculus.proofs.CallLaws.{asks, kept}
use Rattle.calculus.proofs.Models.{models}
use Rattle.calculus.proofs.Sequences.{each_at}
use Rattle.std.specs.Prelude.{Ok, Err}
use Rattle.questions.specs.declared.refusal.Refusal.{Refusal}
use Rattle.questions.specs.Answers.{Answers}
use Rattle.problem.specs.declared.table.Table.{Table}
use Rattle.problem.specs.declared.accepted.Problem as code
use Rattle.problem.specs.Table.{problem_table, TableOf}
use Rattle.capi.proofs.Contracted.{accepted}
use Rattle.listing_lines.specs.Listing.{heading, form_line, program_call, forms_of, form_records, lines_of, listing}
use Rattle.listing_lines.specs.Writing.{problem_of, problem_in, Shaped, answer_in, ProgramRan, line_at}
use Rattle.listing_lines.proofs.Headings.{unpacks}

-- the buffers as the program lends them
abbrev form_buffer : List ℕ
form_buffer = replicate 32768 0

abbrev trace_buffer : List ℕ
trace_buffer = replicate 4000 0

-- ---- the listed records, one by one

listed_length : (n c : ℕ) (bs : List ℕ) → length (listed_forms n c bs) ≡ c
listed_length n zero bs = refl
listed_length n (suc c) bs = ap suc (listed_length n c (drop (record_length n) bs))

listed_at : (n c : ℕ) (bs : List ℕ) (j : ℕ) → j < c → get_or (listed_forms n c bs) j [] ≡ take (record_length n) (drop (record_length n * j) bs)
listed_at n zero bs j l = absurd (omega arith)
listed_at n (suc c) bs zero l = ap (λ (k : ℕ). take (record_length n) (drop k bs)) (sym (mul-zero (record_length n)))
listed_at n (suc c) bs (suc j) l =
    let size : ℕ = record_length n in
    let e : size + size * j ≡ size * suc j = omega (arith, mul-suc size j) in
    listed_at n c (drop size bs) j (le_of_suc-le-suc l) ∙ ap (take size) (drop-drop (size * j) size bs ∙ ap (λ (n : ℕ). drop n bs) e)

map_at : {A : Type 0} (f : A → List ℕ) (xs : List A) (d : A) (j : ℕ) → j < length xs → get_or (map f xs) j [] ≡ f (get_or xs j d)
map_at f [] d j l = absurd (omega arith)
map_at f (x ∷ xs) d zero l = refl
map_at f (x ∷ xs) d (suc j) l = map_at f xs d j (le_of_suc-le-suc l)

module _ (bytes : List ℕ) (word : ℕ) (forms : List ℕ) (ran : ProgramRan bytes word forms) where
  pub first_line : line_at bytes 0 ≡ heading (answer_in word)
  unfolding line_at listing
  first_line = go (read bytes) ∙ ap heading (sym (unpacks bytes)) ∙ ap (λ (w : ℕ). heading (answer_in w)) (sym ran.word_is)
    where
      go : (m : Parsed Problem) → get_or (lines_of m (program_call bytes)) 0 [] ≡ heading (program_call bytes).answer
      go (parsed prob) = refl
      go (refused n) = refl

  counted : word / 4294967296 ≡ forms_of (program_call bytes).answer
  unfolding program_call
  counted = ap (λ (w : ℕ). w / 4294967296) ran.word_is ∙ go (program_call bytes).answer refl
    where
      go : (a : Answer) → (program_call bytes).answer ≡ a → answer_word (program_call bytes).answer / 4294967296 ≡ forms_of (program_call bytes).answer
      go (refusal n) e = (((answers bytes).0 1000 _ _).0 n e).forms_are ∙ ap forms_of (sym e)
      go (ended v n c) e = (((answers bytes).0 1000 _ _).1 v n c e).forms_are ∙ ap forms_of (sym e)

  pub lines_counted : 1 + word / 4294967296 ≡ length (listing bytes)
  unfolding listing program_call
  lines_counted = ap (λ (n : ℕ). 1 + n) counted ∙ go (read bytes) refl
    where
      go : (m : Parsed Problem) → read bytes ≡ m → 1 + forms_of (program_call bytes).answer ≡ length (lines_of m (program_call bytes))
      go (parsed prob) e = omega (arith, length-map (form_records prob (program_call bytes)) (form_line prob), listed_length (term_count prob) (forms_of (program_call bytes).answer) (program_call bytes).forms)
      go (refused n) e = let q = (kept bytes 1000 form_buffer trace_buffer).0 n ((asks bytes 1000 (length trace_buffer)).0 n e) in omega (arith, ap (λ o. forms_of o.answer) q)

  pub no_line : (i : ℕ) → length (listing bytes) ≤ i → line_at bytes i ≡ []
  unfolding line_at
  no_line i l = get_or-eq_default (listing bytes) [] l

  -- the record of a form that is counted, and its line
  pub record Counted (prob : Problem) (j : ℕ) : Type 0 where
    pub reads : read bytes ≡ parsed prob
    pub fits : record_length (term_count prob) * j + record_length (term_count prob) ≤ length forms
    pub long : length forms ≡ 32768
    pub listed_is : Shaped prob (take (record_length (term_count prob)) (drop (record_length (term_count prob) * j) forms))
    pub line_is : line_at bytes (suc j) ≡ form_line prob (take (record_length (term_count prob)) (drop (record_length (term_count prob) * j) forms))

  pub counted_form : (j : ℕ) → j < word / 4294967296 → Counted (problem_in bytes) j
  unfolding program_call line_at listing problem_of
  counted_form j l = go (program_call bytes).answer refl
    where
      go : (a : Answer) → (program_call bytes).answer ≡ a → Counted (problem_in bytes) j
      go (refusal n) e = absurd (omega (arith, l, counted, ap forms_of e))
      go (ended v n c) e =
          let a = accepted bytes 1000 form_buffer trace_buffer v n c e in
          let terms : ℕ = term_count a.prob in
          let size : ℕ = record_length terms in
          let m : j < c = omega (arith, l, counted, ap forms_of e) in
          let k = (kept bytes 1000 form_buffer trace_buffer).1 a.prob a.asks in
          let same : c ≡ k.2 = ap forms_of (sym e ∙ k.3) in
          let long : length forms ≡ 32768 = ap length ran.forms_are ∙ k.6 ∙ length-replicate {A = ℕ} 32768 0 in
          let room : size * suc j ≤ k.2 * size = subst (λ (x : ℕ). size * suc j ≤ x) (mul_comm size k.2) (mul-le-mul_left size (omega (arith, m, same))) in
          let at : get_or (listed_forms terms c (program_call bytes).forms) j [] ≡ take size (drop (size * j) forms) = listed_at terms c (program_call bytes).forms j m ∙ ap (λ (bs : List ℕ). take size (drop (size * j) bs)) (sym ran.forms_are) in
          let there : j < length (listed_forms terms c (program_call bytes).forms) = omega (arith, m, listed_length terms c (program_call bytes).forms) in
          let w = each_at _ (listed_forms terms c (program_call bytes).forms) [] (models bytes 1000 form_buffer trace_buffer a.prob a.reads v n c e) j there in
          let this : Counted a.prob j = record {
            reads = a.reads;
            fits = omega (arith, room, k.5, long, mul-suc size j, length-replicate {A = ℕ} 32768 0);
            long = long;
            listed_is = subst (Shaped a.prob) at (record { shape = w.2; constant = w.3.constant; free = w.3.free; most = w.3.most });
            line_is = rw (a.reads, e) (map_at (form_line a.prob) (listed_forms terms c (program_call bytes).forms) [] j there ∙ ap (form_line a.prob) at);
          } in
          subst (λ (p : Problem). Counted p j) (sym (ap problem_of a.reads)) this

-- what `read` answers where these bytes are a problem
module _ (bytes : List ℕ) (prob : Problem) (e : read bytes ≡ parsed prob) where
  abbrev pub ReadAs : Problem → code.Problem → Type 0
  ReadAs q p = (p.bytes.now ≡ bytes) × TableOf q p.table

  pub no_refusal : (q : Refusal) → ¬ Answers ReadAs (read bytes) (Err q)
  no_refusal q h = rw e at h

  pub same_bytes : (p : code.Problem) → Answers ReadAs (read bytes) (Ok p) → p.bytes.now ≡ bytes
  same_bytes p h = (rw e at h).0

  pub same_length : (p : code.Problem) → Answers ReadAs (read bytes) (Ok p) → record_length p.table.terms ≡ record_length (term_count prob)
  unfolding problem_table
  same_length p h = ap (λ (t : Table). record_length t.terms) (rw e at h).1

pub part : (at size : ℕ) → at + size - at ≡ size
part at size = omega arith
