-- The samples of the channel that is heard.
use Rattle.std.proofs.Common.{◌≡◌, ◌∙◌, ℕ, zero, suc, ◌+◌, ◌-◌, ◌*◌, ◌<◌, ◌≤◌, List, [], ◌∷◌, ◌++◌, length, drop, take, set, ap, ap₂, sym, refl, arith, append_assoc, append-nil, length-drop, mul_comm, suc-mul, ℤ}
use Rattle.std.proofs.lemmas.List.{drop-append-le, drop-drop, take_all, take_more_set}
use Rattle.std.proofs.Math.Nat.{mul-le-mul_left, mul-le-mul_right, mul-suc}
use Rattle.xb_riff.specs.declared.coding.Coding.{Coding}
use Rattle.xb_riff.specs.declared.coding.Coding.TheVariants as coding
use Rattle.xb_riff.specs.Codings.{sample_at, width}
use Rattle.xb_rx.specs.declared.coding.SampleForm.{SampleForm}
use Rattle.xb_rx.specs.Samples.{IsForm, channel_bytes, channel_of, frame_bytes, group_bytes}

-- a sample is written by the first of its bytes
same-sample : (how : Coding) (bytes left : List ℕ) → width how ≤ length bytes
    → sample_at how (bytes ++ left) ≡ sample_at how bytes
same-sample coding.Unsigned8 [] left enough = absurd (omega (arith, enough))
same-sample coding.Unsigned8 (x ∷ bytes) left enough = refl
same-sample coding.Signed16 [] left enough = absurd (omega (arith, enough))
same-sample coding.Signed16 (x ∷ []) left enough = absurd (omega (arith, enough))
same-sample coding.Signed16 (x ∷ y ∷ bytes) left enough = refl
same-sample coding.Signed24 [] left enough = absurd (omega (arith, enough))
same-sample coding.Signed24 (x ∷ []) left enough = absurd (omega (arith, enough))
same-sample coding.Signed24 (x ∷ y ∷ []) left enough = absurd (omega (arith, enough))
same-sample coding.Signed24 (x ∷ y ∷ z ∷ bytes) left enough = refl
same-sample coding.Signed32 [] left enough = absurd (omega (arith, enough))
same-sample coding.Signed32 (x ∷ []) left enough = absurd (omega (arith, enough))
same-sample coding.Signed32 (x ∷ y ∷ []) left enough = absurd (omega (arith, enough))
same-sample coding.Signed32 (x ∷ y ∷ z ∷ []) left enough = absurd (omega (arith, enough))
same-sample coding.Signed32 (x ∷ y ∷ z ∷ w ∷ bytes) left enough = refl
same-sample coding.Float32 [] left enough = absurd (omega (arith, enough))
same-sample coding.Float32 (x ∷ []) left enough = absurd (omega (arith, enough))
same-sample coding.Float32 (x ∷ y ∷ []) left enough = absurd (omega (arith, enough))
same-sample coding.Float32 (x ∷ y ∷ z ∷ []) left enough = absurd (omega (arith, enough))
same-sample coding.Float32 (x ∷ y ∷ z ∷ w ∷ bytes) left enough = refl
same-sample coding.ALaw [] left enough = absurd (omega (arith, enough))
same-sample coding.ALaw (x ∷ bytes) left enough = refl
same-sample coding.MuLaw [] left enough = absurd (omega (arith, enough))
same-sample coding.MuLaw (x ∷ bytes) left enough = refl

-- the channel that is heard ends in its frame
pub in-frame : (form : SampleForm) → IsForm form → channel_bytes form + width form.coding ≤ frame_bytes form
in-frame form is =
    let next : width form.coding * suc form.channel ≤ width form.coding * form.channels =
    mul-le-mul_left (width form.coding) (omega (arith, is.channel)) in
    omega (arith, next, mul-suc (width form.coding) form.channel)

-- one frame, and those after it
pub next-frame : (form : SampleForm) (n : ℕ) (bytes : List ℕ)
    → channel_of form (suc n) bytes
    ≡ sample_at form.coding (drop (channel_bytes form) bytes) ∷ channel_of form n (drop (frame_bytes form) bytes)
unfolding channel_of
next-frame form n bytes = refl

pub no-frame : (form : SampleForm) (bytes : List ℕ) → channel_of form 0 bytes ≡ []
unfolding channel_of
no-frame form bytes = refl

-- some frames, and those after them
pub channel-split : (form : SampleForm) (n m : ℕ) (bytes : List ℕ)
    → channel_of form (n + m) bytes ≡ channel_of form n bytes ++ channel_of form m (drop (n * frame_bytes form) bytes)
unfolding channel_of
channel-split form zero m bytes =
    let none : 0 * frame_bytes form ≡ 0 = omega arith in
    let all : 0 + m ≡ m = omega arith in
    ap (λ (k : ℕ). channel_of form k bytes) all ∙ ap (λ (k : ℕ). channel_of form m (drop k bytes)) (sym none)
channel-split form (suc n) m bytes =
    let more : suc n + m ≡ suc (n + m) = omega arith in
    let rest : List ℕ = drop (frame_bytes form) bytes in
    let far : frame_bytes form + n * frame_bytes form ≡ suc n * frame_bytes form =
    omega (arith, suc-mul n (frame_bytes form)) in
    let first : ℤ = sample_at form.coding (drop (channel_bytes form) bytes) in
    ap (λ (k : ℕ). channel_of form k bytes) more
    ∙ ap (λ xs. first ∷ xs) (channel-split form n m rest)
    ∙ ap (λ xs. first ∷ (channel_of form n rest ++ channel_of form m xs))
    (drop-drop (n * frame_bytes form) (frame_bytes form) bytes ∙ ap (λ (k : ℕ). drop k bytes) far)

-- the frames of a buffer are the first ones of all bytes
pub channel-first : (form : SampleForm) (n : ℕ) (bytes left : List ℕ) → IsForm form
    → n * frame_bytes form ≤ length bytes → channel_of form n (bytes ++ left) ≡ channel_of form n bytes
unfolding channel_of
channel-first form zero bytes left is enough = refl
channel-first form (suc n) bytes left is enough =
    let frame = in-frame form is in
    let more = suc-mul n (frame_bytes form) in
    let before : channel_bytes form ≤ length bytes = omega (arith, frame, more, enough) in
    let long : width form.coding ≤ length (drop (channel_bytes form) bytes) =
    omega (arith, length-drop (channel_bytes form) bytes, frame, more, enough) in
    let whole : frame_bytes form ≤ length bytes = omega (arith, more, enough) in
    let fewer : n * frame_bytes form ≤ length (drop (frame_bytes form) bytes) =
    omega (arith, length-drop (frame_bytes form) bytes, more, enough) in
    ap₂ (λ (x : ℤ) (xs : List ℤ). x ∷ xs)
    (ap (sample_at form.coding) (drop-append-le (channel_bytes form) bytes left before)
    ∙ same-sample form.coding (drop (channel_bytes form) bytes) left long)
    (ap (channel_of form n) (drop-append-le (frame_bytes form) bytes left whole)
    ∙ channel-first form n (drop (frame_bytes form) bytes) left is fewer)

pub channel-length : (form : SampleForm) (n : ℕ) (bytes : List ℕ) → length (channel_of form n bytes) ≡ n
unfolding channel_of
channel-length form zero bytes = refl
channel-length form (suc n) bytes = ap suc (channel-length form n (drop (frame_bytes form) bytes))

-- each frame of a group is there whole
pub frame-there : (form : SampleForm) (n : ℕ) (bytes : List ℕ) → IsForm form → n < form.frames
    → length bytes ≡ group_bytes form
    → n * frame_bytes form + channel_bytes form + width form.coding ≤ length bytes
frame-there form n bytes is less size =
    let some : suc n * frame_bytes form ≤ form.frames * frame_bytes form =
    mul-le-mul_right (frame_bytes form) (omega (arith, less)) in
    let all : length bytes ≡ form.frames * frame_bytes form = size ∙ mul_comm (frame_bytes form) form.frames in
    omega (arith, in-frame form is, some, all, suc-mul n (frame_bytes form))

-- a sample more was put down
pub put-more : (form : SampleForm) (group : List ℕ) (samples : List ℤ) (i : ℕ) (x : ℤ) (all : List ℤ)
    → i < length samples → length samples ≡ form.frames
    → x ≡ sample_at form.coding (drop (i * frame_bytes form + channel_bytes form) group)
    → take i samples ++ channel_of form (form.frames - i) (drop (i * frame_bytes form) group) ≡ all
    → take (i + 1) (set samples i x)
    ++ channel_of form (form.frames - (i + 1)) (drop ((i + 1) * frame_bytes form) group) ≡ all
put-more form group samples i x all inside size is so_far =
    let here : List ℕ = drop (i * frame_bytes form) group in
    let left : ℕ = form.frames - (i + 1) in
    let one : form.frames - i ≡ suc left = omega (arith, inside, size) in
    let far : i * frame_bytes form + frame_bytes form ≡ (i + 1) * frame_bytes form =
    let e : i + 1 ≡ suc i = omega arith in sym (ap (λ (k : ℕ). k * frame_bytes form) e ∙ suc-mul i (frame_bytes form)) in
    let rest : drop (frame_bytes form) here ≡ drop ((i + 1) * frame_bytes form) group =
    drop-drop (frame_bytes form) (i * frame_bytes form) group ∙ ap (λ (k : ℕ). drop k group) far in
    let first : sample_at form.coding (drop (channel_bytes form) here) ≡ x =
    ap (sample_at form.coding) (drop-drop (channel_bytes form) (i * frame_bytes form) group) ∙ sym is in
    let next : channel_of form (form.frames - i) here ≡ x ∷ channel_of form left (drop ((i + 1) * frame_bytes form) group) =
    ap (λ (k : ℕ). channel_of form k here) one
    ∙ next-frame form left here
    ∙ ap₂ (λ (y : ℤ) (xs : List ℕ). y ∷ channel_of form left xs) first rest in
    let tail : List ℤ = channel_of form left (drop ((i + 1) * frame_bytes form) group) in
    ap (λ xs. xs ++ tail) (take_more_set samples i x inside)
    ∙ append_assoc (take i samples) (x ∷ []) tail
    ∙ ap (λ xs. take i samples ++ xs) (sym next)
    ∙ so_far

pub put-all : (form : SampleForm) (group : List ℕ) (samples : List ℤ) (i : ℕ) (all : List ℤ)
    → length samples ≤ i → length samples ≡ form.frames
    → take i samples ++ channel_of form (form.frames - i) (drop (i * frame_bytes form) group) ≡ all → samples ≡ all
put-all form group samples i all whole size so_far =
    let none : form.frames - i ≡ 0 = omega (arith, whole, size) in
    sym (append-nil samples)
    ∙ ap₂ (λ (a b : List ℤ). a ++ b) (sym (take_all i samples whole))
    (sym (ap (λ (k : ℕ). channel_of form k (drop (i * frame_bytes form) group)) none
    ∙ no-frame form (drop (i * frame_bytes form) group)))
    ∙ so_far
