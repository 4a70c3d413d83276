-- How the head of a file of mu-law is read.
use Rattle.std.proofs.Common.{◌≡◌, ◌∙◌, ℕ, ◌+◌, ◌<◌, ◌^◌, List, ◌++◌, Bool, true, false, cond, Some, None, Ok, Err, drop, take, length, length-append, ap, sym, arith, refl, codes}
use Rattle.std.specs.Prelude.{nat_lt}
use Rattle.std.proofs.lemmas.Bool.Decides.{nat_tests}
use Rattle.std.proofs.lemmas.Nat.{from_le_bytes-to_le_bytes_4}
use Rattle.xb_riff.specs.declared.coding.Coding.TheVariants as coding
use Rattle.xb_riff.specs.declared.head.HeadFault.TheVariants as fault
use Rattle.xb_riff.specs.declared.head.WavFormat.{WavFormat}
use Rattle.xb_riff.specs.Heads.{Reads, chunks_of, format_and, format_of, head_of, length_of, long_at}
use Rattle.xb_riff.proofs.HeadLemmas.{beginning_is, data_known, format_is, other_is}
use Rattle.xb_sound.specs.Wavs.{four_bytes}
use Rattle.xb_signal.specs.Forms.{mu_law_format, mu_law_head}
use Rattle.xb_signal.specs.WritingLaws.{mu_law_of}

-- what is known after the chunk of the format
abbrev known : WavFormat
known = record { coding = coding.MuLaw; channels = 1; rate = 8000; length = None }

pub mu_law_is_read : (n : ℕ) → n + 58 < 2 ^ 32 → (rest : List ℕ) → head_of (mu_law_head n ++ rest) ≡ Ok (mu_law_of n, rest)
mu_law_is_read n fits rest =
    let riff : List ℕ = codes "RIFF" ++ four_bytes (n + 50) ++ codes "WAVE" in
    let form : List ℕ = codes "fmt " ++ four_bytes 18 in
    let body : List ℕ = drop 8 mu_law_format in
    let fact : List ℕ = codes "fact" ++ four_bytes 4 in
    let samples : List ℕ = codes "data" ++ four_bytes n in
    let last : List ℕ = samples ++ rest in
    let after : List ℕ = fact ++ (four_bytes n ++ last) in
    let next : Reads = λ f r. chunks_of f r in
    let long : nat_lt (length (body ++ after)) 18 ≡ false =
    grind (arith, nat_tests, length-append body after) in
    let size : n ≡ long_at samples 4 = sym (from_le_bytes-to_le_bytes_4 n (omega arith)) in
    beginning_is None riff (form ++ (body ++ after)) true refl refl
    ∙ format_is None form (body ++ after) false refl refl refl refl
    ∙ ap (λ (b : Bool). cond b (Err fault.NoData)
    (format_and next (format_of (take 18 (body ++ after))) (drop 18 (body ++ after)))) long
    ∙ other_is (Some known) fact (four_bytes n ++ last) refl refl refl
    ∙ data_known (Some known) known samples rest n (length_of n) refl refl refl size refl
