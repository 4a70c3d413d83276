-- The head of a WAV, part by part.
use Rattle.std.proofs.Common.{◌≡◌, ℕ, zero, suc, ◌+◌, ◌-◌, ◌<◌, ◌≤◌, min, List, [], ◌∷◌, ◌++◌, Bool, true, false, cond, Option, Some, None, Ok, Err, drop, length, take, ap, ap₂, refl, subst, sym, ◌∙◌, append_assoc, length-append, length-drop, arith, codes, get_or, drop-cons, add-one}
use Rattle.std.proofs.lemmas.Bool.Decides.{nat_tests}
use Rattle.std.proofs.lemmas.List.{take-append-drop, take_all, take_more}
use Rattle.std.proofs.Math.Seq.{drop-append_seam, take-append_seam}
use Rattle.std.specs.Prelude.{Result, nat_eq, nat_lt}
use Rattle.std.specs.List.{starts_with}
use Rattle.xb_riff.specs.declared.head.HeadFault.{HeadFault}
use Rattle.xb_riff.specs.declared.head.HeadFault.TheVariants as fault
use Rattle.xb_riff.specs.declared.head.HeadPlace.{HeadPlace}
use Rattle.xb_riff.specs.declared.head.HeadPlace.TheVariants as places
use Rattle.xb_riff.specs.declared.head.WavFormat.{WavFormat}
use Rattle.xb_riff.specs.Heads.{HeadSoFar, IsGathered, IsPlace, Samples, TakesByte, TakesHead, after_format, chunks_of, format_and, format_of, head_of, is_riff, length_of, long_at, padded, passed, rest_at, rest_of, samples_by, so_far}
use Rattle.xb_riff.proofs.Chunks.{chunk_head, chunks_few}

-- why a head that ends at a place has no samples
abbrev pub fault_at : HeadPlace → HeadFault
fault_at places.Beginning = fault.NotWav
fault_at places.Chunk = fault.NoData
fault_at (places.Format size) = fault.NoData
fault_at (places.Passed left) = fault.NoData

-- the first 12 bytes
pub beginning_is :
    (found : Option WavFormat) (head rest : List ℕ) (riff : Bool) → length head ≡ 12 → is_riff head ≡ riff
    → rest_at places.Beginning found head rest ≡ cond riff (chunks_of None rest) (Err fault.NotWav)
beginning_is found head rest riff is e =
    let all : List ℕ = head ++ rest in
    let enough : nat_lt (length all) 12 ≡ false = grind (arith, nat_tests, is, length-append head rest) in
    let cut : ℕ → Type 0 = λ n. head_of all
    ≡ cond (nat_lt (length all) 12) (Err fault.NotWav) (cond (is_riff (take n all)) (chunks_of None (drop n all)) (Err fault.NotWav)) in
    let here : cut (length head) = subst cut (sym is) refl in
    here
    ∙ ap (λ (b : Bool). cond b (Err fault.NotWav)
    (cond (is_riff (take (length head) all)) (chunks_of None (drop (length head) all)) (Err fault.NotWav))) enough
    ∙ ap₂ (λ (a b : List ℕ). cond (is_riff a) (chunks_of None b) (Err fault.NotWav)) (take-append_seam head rest)
    (drop-append_seam head rest)
    ∙ ap (λ (b : Bool). cond b (chunks_of None rest) (Err fault.NotWav)) e

-- a chunk by its name
named :
    (found : Option WavFormat) (chunk rest : List ℕ) (is_data is_format : Bool) → length chunk ≡ 8
    → starts_with nat_eq chunk (codes "data") ≡ is_data → starts_with nat_eq chunk (codes "fmt ") ≡ is_format
    → chunks_of found (chunk ++ rest)
    ≡ cond is_data (samples_by found (long_at chunk 4) rest)
    (cond is_format (cond (nat_lt (long_at chunk 4) 16) (Err fault.NoFormat) (after_format (λ f r. chunks_of f r) (padded (long_at chunk 4)) rest))
    (chunks_of found (drop (padded (long_at chunk 4)) rest)))
named found chunk rest is_data is_format is d f =
    chunk_head found chunk rest is
    ∙ ap₂ (λ (a b : Bool). cond a (samples_by found (long_at chunk 4) rest)
    (cond b (cond (nat_lt (long_at chunk 4) 16) (Err fault.NoFormat) (after_format (λ f r. chunks_of f r) (padded (long_at chunk 4)) rest))
    (chunks_of found (drop (padded (long_at chunk 4)) rest)))) d f

pub data_is :
    (found : Option WavFormat) (chunk rest : List ℕ) → length chunk ≡ 8 → starts_with nat_eq chunk (codes "data") ≡ true
    → chunks_of found (chunk ++ rest) ≡ samples_by found (long_at chunk 4) rest
data_is found chunk rest is d = named found chunk rest true (starts_with nat_eq chunk (codes "fmt ")) is d refl

pub data_known :
    (found : Option WavFormat) (format : WavFormat) (chunk rest : List ℕ) (size : ℕ) (known : Option ℕ) → length chunk ≡ 8
    → starts_with nat_eq chunk (codes "data") ≡ true → found ≡ Some format → size ≡ long_at chunk 4
    → known ≡ length_of size → chunks_of found (chunk ++ rest) ≡ Ok (record format { length = known }, rest)
data_known found format chunk rest size known is d f e k =
    let P : Option ℕ → Type 0 = λ n. chunks_of found (chunk ++ rest) ≡ Ok (record format { length = n }, rest) in
    subst P (sym (k ∙ ap length_of e))
    (data_is found chunk rest is d ∙ ap (λ (o : Option WavFormat). samples_by o (long_at chunk 4) rest) f)

pub data_unknown :
    (found : Option WavFormat) (chunk rest : List ℕ) → length chunk ≡ 8 → starts_with nat_eq chunk (codes "data") ≡ true
    → found ≡ None → chunks_of found (chunk ++ rest) ≡ Err fault.NoFormat
data_unknown found chunk rest is d f =
    data_is found chunk rest is d ∙ ap (λ (o : Option WavFormat). samples_by o (long_at chunk 4) rest) f

pub other_is :
    (found : Option WavFormat) (chunk rest : List ℕ) → length chunk ≡ 8 → starts_with nat_eq chunk (codes "data") ≡ false
    → starts_with nat_eq chunk (codes "fmt ") ≡ false
    → chunks_of found (chunk ++ rest) ≡ chunks_of found (drop (padded (long_at chunk 4)) rest)
other_is found chunk rest is d f = named found chunk rest false false is d f

pub format_is :
    (found : Option WavFormat) (chunk rest : List ℕ) (short : Bool) → length chunk ≡ 8
    → starts_with nat_eq chunk (codes "data") ≡ false → starts_with nat_eq chunk (codes "fmt ") ≡ true
    → nat_lt (long_at chunk 4) 16 ≡ short
    → chunks_of found (chunk ++ rest)
    ≡ cond short (Err fault.NoFormat) (after_format (λ f r. chunks_of f r) (padded (long_at chunk 4)) rest)
format_is found chunk rest short is d f e =
    named found chunk rest false true is d f
    ∙ ap (λ (b : Bool). cond b (Err fault.NoFormat) (after_format (λ f r. chunks_of f r) (padded (long_at chunk 4)) rest)) e

-- bytes that are passed over
pub passed_is :
    (left : ℕ) (found : Option WavFormat) (rest : List ℕ) → rest_at (passed left) found [] rest ≡ chunks_of found (drop left rest)
passed_is left found rest = at (nat_lt 0 left) refl
  where
    at :
        (some : Bool) → nat_lt 0 left ≡ some
        → rest_at (cond some (places.Passed left) places.Chunk) found [] rest ≡ chunks_of found (drop left rest)
    at true e = refl
    at false e =
        let none : left ≡ 0 = grind (arith, nat_tests) in
        ap (λ (n : ℕ). chunks_of found (drop n rest)) (sym none)

pub passed_within :
    (left : ℕ) → IsPlace (passed left) []
passed_within left = at (nat_lt 0 left) refl
  where
    at : (some : Bool) → nat_lt 0 left ≡ some → IsPlace (cond some (places.Passed left) places.Chunk) []
    at true e = (grind (arith, nat_tests), refl)
    at false e = omega arith

-- bytes that begin with those that are passed over
drop-more : (n : ℕ) (a b : List ℕ) → length a ≤ n → drop n (a ++ b) ≡ drop (n - length a) b
drop-more n [] b h =
    let all : n - 0 ≡ n = omega arith in
    ap (λ (m : ℕ). drop m b) (sym all)
drop-more zero (x ∷ a) b h = absurd (omega (arith, h))
drop-more (suc n) (x ∷ a) b h =
    let less : n - length a ≡ suc n - suc (length a) = omega arith in
    drop-more n a b (omega (arith, h)) ∙ ap (λ (m : ℕ). drop m b) less

-- a chunk `fmt ` whose bytes have come
pub format_says :
    (chunk rest : List ℕ) (size : ℕ) → length chunk ≡ min size 26
    → after_format (λ f r. chunks_of f r) size (chunk ++ rest)
    ≡ format_and (λ f r. chunks_of f r) (format_of chunk) (drop (size - length chunk) rest)
format_says chunk rest size is =
    let all : List ℕ = chunk ++ rest in
    let enough : nat_lt (length all) (min size 26) ≡ false = grind (arith, nat_tests, is, length-append chunk rest) in
    let first : take (min size 26) all ≡ chunk = ap (λ (n : ℕ). take n all) (sym is) ∙ take-append_seam chunk rest in
    ap (λ (b : Bool). cond b (Err fault.NoData)
    (format_and (λ f r. chunks_of f r) (format_of (take (min size 26) all)) (drop size all))) enough
    ∙ ap₂ (λ (a b : List ℕ). format_and (λ f r. chunks_of f r) (format_of a) b) first
    (drop-more size chunk rest (omega (arith, is)))

pub format_known :
    (chunk rest : List ℕ) (size left : ℕ) (format : WavFormat) (place : HeadPlace) → length chunk ≡ min size 26
    → format_of chunk ≡ Ok format → place ≡ passed left → left ≡ size - length chunk
    → after_format (λ f r. chunks_of f r) size (chunk ++ rest) ≡ rest_at place (Some format) [] rest
format_known chunk rest size left format place is says at less =
    format_says chunk rest size is
    ∙ ap (λ (r : Result WavFormat HeadFault). format_and (λ f r. chunks_of f r) r (drop (size - length chunk) rest)) says
    ∙ ap (λ (n : ℕ). chunks_of (Some format) (drop n rest)) (sym less)
    ∙ sym (passed_is left (Some format) rest) ∙ ap (λ (p : HeadPlace). rest_at p (Some format) [] rest) (sym at)

-- a byte more of a part
pub gathers :
    (place : HeadPlace) (found : Option WavFormat) (gathered : List ℕ) (byte : ℕ) (rest : List ℕ) → IsGathered place
    → rest_at place found gathered (byte ∷ rest) ≡ rest_at place found (gathered ++ byte ∷ []) rest
gathers places.Beginning found gathered byte rest is = ap head_of (sym (append_assoc gathered (byte ∷ []) rest))
gathers places.Chunk found gathered byte rest is = ap (chunks_of found) (sym (append_assoc gathered (byte ∷ []) rest))
gathers (places.Format size) found gathered byte rest is =
    ap (after_format (λ f r. chunks_of f r) size) (sym (append_assoc gathered (byte ∷ []) rest))
gathers (places.Passed left) found gathered byte rest is = elim is [ ]

-- its last byte
pub part_ends :
    (old : HeadSoFar) (place : HeadPlace) (found : Option WavFormat) (gathered part : List ℕ) (byte : ℕ)
    (comes : List ℕ → Result Samples HeadFault)
    → so_far place found gathered ≡ old → IsGathered old.place → part ≡ gathered ++ byte ∷ []
    → ((rest : List ℕ) → rest_at place found part rest ≡ comes rest)
    → (rest : List ℕ) → rest_of old (byte ∷ rest) ≡ comes rest
part_ends old place found gathered part byte comes view is whole says = λ rest.
    let P : HeadSoFar → Type 0 = λ h. IsGathered h.place in
    ap (λ (h : HeadSoFar). rest_of h (byte ∷ rest)) (sym view)
    ∙ gathers place found gathered byte rest (subst P (sym view) is)
    ∙ ap (λ (g : List ℕ). rest_at place found g rest) (sym whole) ∙ says rest

-- a byte that is passed over
pub passes :
    (left less : ℕ) (found : Option WavFormat) (gathered : List ℕ) (byte : ℕ) (rest : List ℕ) → left ≡ less + 1
    → rest_at (places.Passed left) found gathered (byte ∷ rest) ≡ rest_at (passed less) found [] rest
passes left less found gathered byte rest is =
    let one : left ≡ suc less = omega (arith, is) in
    ap (λ (n : ℕ). chunks_of found (drop n (byte ∷ rest))) one ∙ sym (passed_is less found rest)

-- a head that ends before its samples
pub head_ends :
    (place : HeadPlace) (found : Option WavFormat) (gathered : List ℕ) → IsPlace place gathered
    → rest_at place found gathered [] ≡ Err (fault_at place)
head_ends places.Beginning found gathered is =
    let short : nat_lt (length (gathered ++ [])) 12 ≡ true = grind (arith, nat_tests, is, length-append gathered ([])) in
    ap (λ (b : Bool). cond b (Err fault.NotWav)
    (cond (is_riff (take 12 (gathered ++ []))) (chunks_of None (drop 12 (gathered ++ []))) (Err fault.NotWav))) short
head_ends places.Chunk found gathered is =
    chunks_few found (gathered ++ []) (omega (arith, is, length-append gathered ([])))
head_ends (places.Format size) found gathered is =
    let short : nat_lt (length (gathered ++ [])) (min size 26) ≡ true =
    grind (arith, nat_tests, is.1, length-append gathered ([])) in
    ap (λ (b : Bool). cond b (Err fault.NoData)
    (format_and (λ f r. chunks_of f r) (format_of (take (min size 26) (gathered ++ []))) (drop size (gathered ++ [])))) short
head_ends (places.Passed left) found gathered is =
    let nothing : List ℕ = [] in
    let none : length (drop left nothing) ≡ 0 - left = length-drop left nothing in
    chunks_few found (drop left nothing) (omega (arith, none))

-- the byte at a place of many
pub place-cut :
    (bytes rest : List ℕ) (i byte : ℕ) → i < length bytes → byte ≡ get_or bytes i 0
    → take i bytes ++ (byte ∷ (drop (i + 1) bytes ++ rest)) ≡ bytes ++ rest
place-cut bytes rest i byte h e =
    let here : drop i bytes ≡ byte ∷ drop (i + 1) bytes = rw (e, add-one) (drop-cons bytes i 0 h) in
    sym (append_assoc (take i bytes) (byte ∷ drop (i + 1) bytes) rest)
    ∙ ap (λ later. (take i bytes ++ later) ++ rest) (sym here)
    ∙ ap (λ all. all ++ rest) (take-append-drop i bytes)

-- one byte more that was taken, and all of them
pub head_more :
    (old mid new : HeadSoFar) (bytes : List ℕ) (i : ℕ) (found : Option WavFormat) → i < length bytes → found ≡ None
    → TakesHead old (take i bytes) None mid → TakesByte mid (get_or bytes i 0) found new
    → TakesHead old (take (i + 1) bytes) None new
head_more old mid new bytes i found h none taken more = λ rest.
    let byte : ℕ = get_or bytes i 0 in
    let F : Option WavFormat → Type 0 = λ f. TakesByte mid byte f new in
    let one : TakesByte mid byte None new = subst F none more in
    let all : take i bytes ++ (byte ∷ rest) ≡ take (i + 1) bytes ++ rest =
    sym (append_assoc (take i bytes) (byte ∷ []) rest) ∙ ap (λ some. some ++ rest) (sym (take_more bytes i 0 h)) in
    ap (rest_of old) (sym all) ∙ taken (byte ∷ rest) ∙ one rest

pub head_whole :
    (old new : HeadSoFar) (bytes : List ℕ) (i : ℕ) → length bytes ≤ i → TakesHead old (take i bytes) None new
    → TakesHead old bytes None new
head_whole old new bytes i h taken =
    let P : List ℕ → Type 0 = λ all. TakesHead old all None new in
    subst P (take_all i bytes h) taken

-- what a byte after others comes to
pub head_then :
    (old mid : HeadSoFar) (bytes rest : List ℕ) (i : ℕ) (comes : Result Samples HeadFault) → i < length bytes
    → TakesHead old (take i bytes) None mid → rest_of mid (get_or bytes i 0 ∷ (drop (i + 1) bytes ++ rest)) ≡ comes
    → rest_of old (bytes ++ rest) ≡ comes
head_then old mid bytes rest i comes h taken here =
    let byte : ℕ = get_or bytes i 0 in
    ap (rest_of old) (sym (place-cut bytes rest i byte h refl)) ∙ taken (byte ∷ (drop (i + 1) bytes ++ rest)) ∙ here
