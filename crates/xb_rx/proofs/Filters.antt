-- The sample that a group of bytes writes, after those before it.
use Rattle.std.proofs.Common.{◌≡◌, ◌∙◌, ℕ, zero, suc, ◌*◌, ◌≤◌, Bool, true, false, List, [], ◌∷◌, ◌++◌, length, drop, append_assoc, sym, ap, ap₂, refl, arith, length-append, ℤ, pos}
use Rattle.std.specs.Prelude.{◌+ℤ◌, ◌*ℤ◌, ◌==◌, if◌then◌else◌}
use Rattle.std.proofs.lemmas.List.{drop-append-le, get_or_append_left}
use Rattle.xb_riff.specs.Codings.{sample_at}
use Rattle.xb_rx.specs.declared.coding.SampleForm.{SampleForm}
use Rattle.xb_rx.specs.Samples.{channel_bytes, channel_of, filtered, filtered_sample, rounded, samples_of, sum_of, weight}
use Rattle.xb_rx.specs.Streams.{HearsGroup}
use Rattle.xb_rx.proofs.Channels.{channel-length, next-frame, no-frame}

-- the first samples of a list
same-sum : (frames n : ℕ) (samples rest : List ℤ) → n ≤ length samples
    → sum_of frames n (samples ++ rest) ≡ sum_of frames n samples
unfolding sum_of
same-sum frames zero samples rest enough = refl
same-sum frames (suc n) samples rest enough =
    ap₂ (λ (a b : ℤ). a +ℤ b *ℤ weight frames n) (same-sum frames n samples rest (omega (arith, enough)))
    (get_or_append_left samples rest (pos 0) n (omega (arith, enough)))

-- no sample
no-filtered : (frames : ℕ) (samples : List ℤ) → filtered frames 0 samples ≡ []
unfolding filtered
no-filtered frames samples = refl

pub none-heard : (form : SampleForm) (before : List ℤ) (bytes : List ℕ) → samples_of form 0 before bytes ≡ []
none-heard form before bytes = at (form.frames == 1)
  where
    none : 0 * form.frames ≡ 0
    none = omega arith

    at : (b : Bool)
        → (if b then channel_of form (0 * form.frames) bytes
        else filtered form.frames 0 (before ++ channel_of form (0 * form.frames) bytes)) ≡ []
    at true = ap (λ (k : ℕ). channel_of form k bytes) none ∙ no-frame form bytes
    at false = no-filtered form.frames (before ++ channel_of form (0 * form.frames) bytes)

-- the sample at the end of a window, and those after it
next-filtered : (frames n : ℕ) (samples : List ℤ)
    → filtered frames (suc n) samples ≡ filtered_sample frames samples ∷ filtered frames n (drop frames samples)
unfolding filtered
next-filtered frames n samples = refl

-- where there are 8,000 a second it is that of the bytes
pub hears-one : (form : SampleForm) (group : List ℕ) (before after : List ℤ) (x : ℤ) → form.frames ≡ 1
    → x ≡ sample_at form.coding (drop (channel_bytes form) group) → HearsGroup form group before x after
hears-one form group before after x one is n rest =
    let yes : (form.frames == 1) ≡ true = ap (λ (k : ℕ). k == 1) one in
    let now : channel_of form form.frames group ≡ x ∷ [] =
    ap (λ (k : ℕ). channel_of form k group) one
    ∙ next-frame form 0 group
    ∙ ap₂ (λ (y : ℤ) (ys : List ℤ). y ∷ ys) (sym is) (no-frame form _) in
    let all : List ℤ = channel_of form form.frames group ++ rest in
    ap (λ (b : Bool). if b then all else filtered form.frames (suc n) (before ++ all)) yes
    ∙ ap (λ xs. xs ++ rest) now
    ∙ sym (ap (λ (b : Bool). x ∷ (if b then rest else filtered form.frames n (after ++ rest))) yes)

-- and else of those in the time of eight
pub hears-many : (form : SampleForm) (group : List ℕ) (before after window : List ℤ) (x : ℤ) → (form.frames == 1) ≡ false
    → length before ≡ 7 * form.frames → window ≡ before ++ channel_of form form.frames group
    → x ≡ filtered_sample form.frames window → after ≡ drop form.frames window → HearsGroup form group before x after
hears-many form group before after window x many long whole is slid n rest =
    let frames : ℕ = form.frames in
    let now : List ℤ = channel_of form frames group in
    let all : before ++ (now ++ rest) ≡ window ++ rest =
    sym (append_assoc before now rest) ∙ ap (λ xs. xs ++ rest) (sym whole) in
    let size : length window ≡ 8 * frames =
    omega (arith, ap length whole, length-append before now, long, channel-length form frames group) in
    let sum : sum_of frames (8 * frames) (window ++ rest) ≡ sum_of frames (8 * frames) window =
    same-sum frames (8 * frames) window rest (omega (arith, size)) in
    let first : filtered_sample frames (window ++ rest) ≡ x =
    ap (λ (z : ℤ). rounded (10000 * frames) z) sum ∙ sym is in
    let later : drop frames (window ++ rest) ≡ after ++ rest =
    drop-append-le frames window rest (omega (arith, size)) ∙ ap (λ xs. xs ++ rest) (sym slid) in
    ap (λ (b : Bool). if b then now ++ rest else filtered frames (suc n) (before ++ (now ++ rest))) many
    ∙ ap (filtered frames (suc n)) all
    ∙ next-filtered frames n (window ++ rest)
    ∙ ap₂ (λ (y : ℤ) (ys : List ℤ). y ∷ filtered frames n ys) first later
    ∙ sym (ap (λ (b : Bool). x ∷ (if b then rest else filtered frames n (after ++ rest))) many)
