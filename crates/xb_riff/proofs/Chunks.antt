-- What comes of chunks, one after the other.
use Rattle.std.proofs.Common.{◌≡◌, ℕ, zero, suc, ◌+◌, ◌-◌, ◌<◌, ◌≤◌, List, ◌++◌, Bool, true, false, cond, Option, Some, Ok, Err, drop, length, take, min, ap, ap₂, refl, subst, sym, ◌∙◌, length-append, length-drop, arith, codes}
use Rattle.std.proofs.lemmas.Bool.Decides.{nat_tests}
use Rattle.std.proofs.Math.Seq.{drop-append_seam, take-append_seam}
use Rattle.std.specs.Prelude.{Result, nat_eq, nat_lt}
use Rattle.std.specs.List.{starts_with}
use Rattle.xb_riff.specs.declared.head.HeadFault.{HeadFault}
use Rattle.xb_riff.specs.declared.head.HeadFault.TheVariants as fault
use Rattle.xb_riff.specs.declared.head.WavFormat.{WavFormat}
use Rattle.xb_riff.specs.Heads.{Reads, Samples, after_chunk, after_format, chunks_of, format_and, format_of, long_at, padded, samples_by, samples_in}

-- two ways to read that agree where so many bytes are left
abbrev Agree : ℕ → Reads → Reads → Type 0
Agree most next other =
    (found : Option WavFormat) (rest : List ℕ) → length rest ≤ most → next found rest ≡ other found rest

format-along :
    (most : ℕ) (next other : Reads) (form : Result WavFormat HeadFault) (rest : List ℕ) → Agree most next other
    → length rest ≤ most → format_and next form rest ≡ format_and other form rest
format-along most next other (Err f) rest same few = refl
format-along most next other (Ok format) rest same few = same (Some format) rest few

formats-along :
    (most : ℕ) (next other : Reads) (size : ℕ) (rest : List ℕ) → Agree most next other → length rest ≤ most
    → after_format next size rest ≡ after_format other size rest
formats-along most next other size rest same few =
    ap (λ (r : Result Samples HeadFault). cond (nat_lt (length rest) (min size 26)) (Err fault.NoData) r)
    (format-along most next other (format_of (take (min size 26) rest)) (drop size rest) same
    (omega (arith, few, length-drop size rest)))

chunk-along :
    (most : ℕ) (next other : Reads) (found : Option WavFormat) (chunk rest : List ℕ) → Agree most next other
    → length rest ≤ most → after_chunk next found chunk rest ≡ after_chunk other found chunk rest
chunk-along most next other found chunk rest same few =
    ap₂ (λ (a b : Result Samples HeadFault). cond (starts_with nat_eq chunk (codes "data"))
    (samples_by found (long_at chunk 4) rest)
    (cond (starts_with nat_eq chunk (codes "fmt ")) (cond (nat_lt (long_at chunk 4) 16) (Err fault.NoFormat) a) b))
    (formats-along most next other (padded (long_at chunk 4)) rest same few)
    (same found (drop (padded (long_at chunk 4)) rest) (omega (arith, few, length-drop (padded (long_at chunk 4)) rest)))

-- one chunk more may be read
in-one :
    (n : ℕ) (found : Option WavFormat) (bytes : List ℕ)
    → samples_in (suc n) found bytes
    ≡ cond (nat_lt (length bytes) 8) (Err fault.NoData)
    (after_chunk (λ known rest. samples_in n known rest) found (take 8 bytes) (drop 8 bytes))
unfolding samples_in
in-one n found bytes = refl

in-few : (n : ℕ) (found : Option WavFormat) (bytes : List ℕ) → length bytes < 8 → samples_in n found bytes ≡ Err fault.NoData
unfolding samples_in
in-few zero found bytes few = refl
in-few (suc n) found bytes few =
    let short : nat_lt (length bytes) 8 ≡ true = grind (arith, nat_tests) in
    ap (λ (b : Bool). cond b (Err fault.NoData)
    (after_chunk (λ known rest. samples_in n known rest) found (take 8 bytes) (drop 8 bytes))) short

-- as many chunks as there are bytes are enough
enough :
    (n m : ℕ) (found : Option WavFormat) (bytes : List ℕ) → length bytes ≤ n → length bytes ≤ m
    → samples_in n found bytes ≡ samples_in m found bytes
enough zero m found bytes few less =
    in-few zero found bytes (omega arith) ∙ sym (in-few m found bytes (omega arith))
enough (suc n) zero found bytes few less =
    in-few (suc n) found bytes (omega arith) ∙ sym (in-few zero found bytes (omega arith))
enough (suc n) (suc m) found bytes few less =
    at (λ known rest left. enough n m known rest (omega (arith, left, few)) (omega (arith, left, less))) (nat_lt (length bytes) 8) refl
  where
    at :
        ((known : Option WavFormat) (rest : List ℕ) → length rest + 8 ≤ length bytes → samples_in n known rest ≡ samples_in m known rest)
        → (short : Bool) → nat_lt (length bytes) 8 ≡ short → samples_in (suc n) found bytes ≡ samples_in (suc m) found bytes
    at same true e =
        let none : length bytes < 8 = grind (arith, nat_tests) in
        in-few (suc n) found bytes none ∙ sym (in-few (suc m) found bytes none)
    at same false e =
        let some : 8 ≤ length bytes = grind (arith, nat_tests) in
        let left : length (drop 8 bytes) ≡ length bytes - 8 = length-drop 8 bytes in
        in-one n found bytes
        ∙ ap (λ (r : Result Samples HeadFault). cond (nat_lt (length bytes) 8) (Err fault.NoData) r)
        (chunk-along (length (drop 8 bytes)) (λ known rest. samples_in n known rest) (λ known rest. samples_in m known rest)
        found (take 8 bytes) (drop 8 bytes)
        (λ known rest short. same known rest (omega (arith, short, left, some)))
        (omega arith))
        ∙ sym (in-one m found bytes)

pub chunks_few : (found : Option WavFormat) (bytes : List ℕ) → length bytes < 8 → chunks_of found bytes ≡ Err fault.NoData
unfolding chunks_of
chunks_few found bytes few = in-few (length bytes) found bytes few

-- a chunk whose name and length are there, and what comes of those after it
chunk_more :
    (found : Option WavFormat) (bytes : List ℕ) → 8 ≤ length bytes
    → chunks_of found bytes ≡ after_chunk (λ known rest. chunks_of known rest) found (take 8 bytes) (drop 8 bytes)
unfolding chunks_of
chunk_more found bytes some =
    let long : nat_lt (length bytes) 8 ≡ false = grind (arith, nat_tests) in
    enough (length bytes) (suc (length bytes)) found bytes (omega arith) (omega arith)
    ∙ in-one (length bytes) found bytes
    ∙ ap (λ (b : Bool). cond b (Err fault.NoData)
    (after_chunk (λ known rest. samples_in (length bytes) known rest) found (take 8 bytes) (drop 8 bytes))) long
    ∙ chunk-along (length (drop 8 bytes)) (λ known rest. samples_in (length bytes) known rest)
    (λ known rest. samples_in (length rest) known rest) found (take 8 bytes) (drop 8 bytes)
    (λ known rest short. enough (length bytes) (length rest) known rest (omega (arith, short, length-drop 8 bytes)) (omega arith))
    (omega arith)

pub chunk_head :
    (found : Option WavFormat) (chunk rest : List ℕ) → length chunk ≡ 8
    → chunks_of found (chunk ++ rest) ≡ after_chunk (λ known more. chunks_of known more) found chunk rest
chunk_head found chunk rest is =
    let size : ℕ → Type 0 = λ n. chunks_of found (chunk ++ rest)
    ≡ after_chunk (λ known more. chunks_of known more) found (take n (chunk ++ rest)) (drop n (chunk ++ rest)) in
    let cut : size (length chunk) = subst size (sym is) (chunk_more found (chunk ++ rest) (omega (arith, is, length-append chunk rest))) in
    cut
    ∙ ap₂ (λ (a b : List ℕ). after_chunk (λ known more. chunks_of known more) found a b) (take-append_seam chunk rest)
    (drop-append_seam chunk rest)
