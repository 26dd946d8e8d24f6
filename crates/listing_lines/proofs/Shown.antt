-- What a listing shows: no more than 4,097 bytes matter; members ascend, and each line's model satisfies the problem.
use mathlib.Core.Path.{◌≡◌, refl, sym, ap, ◌∙◌}
use mathlib.Core.List.{List, [], ◌∷◌}
use Prim.Native.Nat.{ℕ, ◌<◌}
use native.Mathlib.Omega.{arith}
use native.Mathlib.Decide.{dec_lt}
use lib.ListN.{length, take, replicate, length-take}
use lib.Seq.{take_all}
use Rattle.calculus.specs.Lists.{Each}
use Rattle.calculus.specs.Problem.{term_count, Rising, Satisfies}
use Rattle.calculus.specs.Reading.{refused, read}
use Rattle.calculus.specs.Encoding.{Bytes, Handed, encode_handed, WrittenAssignment}
use Rattle.calculus.specs.Forms.{listed_forms, handed_model}
use Rattle.calculus.specs.Check.{assignment_of}
use Rattle.calculus.specs.Calls.{Answer, refusal, ended, HOLDS, check}
use Rattle.calculus.proofs.Bools.{each_imp}
use Rattle.calculus.proofs.CallLaws.{asks, kept}
use Rattle.calculus.proofs.Refuses.{refuses}
use Rattle.calculus.proofs.ReadAssignment.{reads_assignment}
use Rattle.calculus.proofs.Checking.{checks}
use Rattle.calculus.proofs.ModelsPass.{models_pass}
use Rattle.listing_lines.specs.Listing.{heading, program_call, form_records, listing, Cut, Shows}

-- the lines of a problem that is refused
refused_lines : (bytes : List ℕ) (n : ℕ) → read bytes ≡ refused n → listing bytes ≡ heading (refusal n) ∷ []
unfolding listing program_call
refused_lines bytes n e =
    let q = (kept bytes 1000 (replicate 32768 0) (replicate 4000 0)).0 n ((asks bytes 1000 (length {A = ℕ} (replicate 4000 0))).0 n e) in
    rw e (ap (λ o. heading o.answer ∷ []) q)

pub cut : Cut
cut bytes = go (dec_lt 4097 (length bytes))
  where
    go : Dec (4097 < length bytes) → listing (take 4097 bytes) ≡ listing bytes
    go (no q) = ap listing (take_all 4097 bytes (omega arith))
    go (yes q) =
        refused_lines (take 4097 bytes) 1 ((refuses (take 4097 bytes)).0.1 (omega (arith, q, length-take 4097 bytes)))
        ∙ sym (refused_lines bytes 1 ((refuses bytes).0.1 (omega (arith, q))))

pub shows : Shows
unfolding program_call
shows bytes prob e = go (program_call bytes).answer refl
  where
    Shown : List ℕ → Type 0
    Shown r = Each Rising (handed_model prob r).sets × Satisfies prob (assignment_of (handed_model prob r))

    Passes : List ℕ → Type 0
    Passes r = let g : Handed = handed_model prob r in Bytes (encode_handed g) × WrittenAssignment prob (encode_handed g) g × (check bytes (encode_handed g) ≡ HOLDS)

    shown : (r : List ℕ) → Passes r → Shown r
    shown r p =
        let g : Handed = handed_model prob r in
        let reads = ((reads_assignment prob (encode_handed g) p.0).0 g).1 p.1 in
        (each_imp (λ xs. Rising xs × (length xs < 256)) Rising g.sets (λ xs q. q.0) p.1.rising, (((checks bytes (encode_handed g)).1 prob e).1 g reads).0.0 p.2)

    go : (a : Answer) → (program_call bytes).answer ≡ a → Each Shown (form_records prob (program_call bytes))
    go (refusal n) q = rw q tt
    go (ended v n c) q = rw q (each_imp Passes Shown (listed_forms (term_count prob) c (program_call bytes).forms) shown (models_pass bytes 1000 _ _ prob e v n c q))
