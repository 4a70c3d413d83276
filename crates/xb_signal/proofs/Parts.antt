-- The parts of a signal.
use Rattle.std.proofs.Common.{◌≡◌, ◌∙◌, ℕ, suc, get_or, ◌+◌, ◌*◌, ◌<◌, List, [], ◌∷◌, ◌++◌, length, length-append, take, drop, refl, sym, ap, append_assoc, append-nil, arith, ℤ}
use Rattle.std.proofs.lemmas.Grind.{flat_map-append}
use Rattle.std.proofs.lemmas.List.{take-append-drop}
use Rattle.std.proofs.lemmas.List.FromFn.{length-map-range_with_len}
use Rattle.std.proofs.lemmas.List.Sums.{sum_by-cons}
use Rattle.std.proofs.Math.Seq.{drop-cons, take-suc}
use Rattle.xb_signal.specs.declared.segment.Segment.{Segment}
use Rattle.xb_signal.specs.declared.setting.Setting.{Setting}
use Rattle.xb_signal.specs.declared.moment.Moment.{Moment}
use Rattle.xb_signal.specs.Moments.{moment_after}
use Rattle.xb_signal.specs.Forms.{sample_coded, samples_coded}
use Rattle.xb_signal.specs.Segments.{samples_in, segment_sound, signal_from}
use Rattle.xb_signal.specs.OneSample.{sample_at}

-- the moment after segments
abbrev pub moment_before : Moment → List Segment → Moment
moment_before moment [] = moment
moment_before moment (segment ∷ later) = moment_before (moment_after moment (segment.ms * 8)) later

pub moment-next : (moment : Moment) (segments : List Segment) (segment : Segment)
    → moment_before moment (segments ++ segment ∷ []) ≡ moment_after (moment_before moment segments) (segment.ms * 8)
moment-next moment [] segment = refl
moment-next moment (first ∷ later) segment = moment-next (moment_after moment (first.ms * 8)) later segment

-- a signal is that of the first segments, and then that of the others
pub signal-append : (setting : Setting) (moment : Moment) (xs ys : List Segment)
    → signal_from setting moment (xs ++ ys)
    ≡ signal_from setting moment xs ++ signal_from setting (moment_before moment xs) ys
signal-append setting moment [] ys = refl
signal-append setting moment (x ∷ xs) ys =
    let after : Moment = moment_after moment (x.ms * 8) in
    ap (λ (zs : List ℤ). segment_sound setting moment x ++ zs) (signal-append setting after xs ys)
    ∙ sym (append_assoc (segment_sound setting moment x) (signal_from setting after xs)
    (signal_from setting (moment_before after xs) ys))

pub length-signal : (setting : Setting) (moment : Moment) (segments : List Segment)
    → length (signal_from setting moment segments) ≡ samples_in segments
length-signal setting moment [] = refl
length-signal setting moment (segment ∷ later) =
    let after : Moment = moment_after moment (segment.ms * 8) in
    length-append (segment_sound setting moment segment) (signal_from setting after later)
    ∙ ap (λ (n : ℕ). n + length (signal_from setting after later))
    (length-map-range_with_len (λ n. sample_at setting moment segment.sound n) 0 (segment.ms * 8))
    ∙ ap (λ (n : ℕ). segment.ms * 8 + n) (length-signal setting after later)
    ∙ sym (sum_by-cons (λ (s : Segment). s.ms * 8) segment later)

taken : (segments : List Segment) (i : ℕ) (segment : Segment) → i < length segments
    → segment ≡ get_or segments i segment → take (i + 1) segments ≡ take i segments ++ segment ∷ []
taken segments i segment within is =
    let next : i + 1 ≡ suc i = omega arith in
    ap (λ (n : ℕ). take n segments) next
    ∙ take-suc segments i segment within
    ∙ ap (λ (s : Segment). take i segments ++ s ∷ []) (sym is)

pub moment-taken : (moment : Moment) (segments : List Segment) (i : ℕ) (segment : Segment) → i < length segments
    → segment ≡ get_or segments i segment
    → moment_before moment (take (i + 1) segments)
    ≡ moment_after (moment_before moment (take i segments)) (segment.ms * 8)
moment-taken moment segments i segment within is =
    ap (moment_before moment) (taken segments i segment within is) ∙ moment-next moment (take i segments) segment

-- the bytes of the first segments, and of one more
pub signal-next : (setting : Setting) (moment : Moment) (segments : List Segment) (i : ℕ) (segment : Segment)
    → i < length segments → segment ≡ get_or segments i segment
    → samples_coded setting.form (signal_from setting moment (take (i + 1) segments))
    ≡ samples_coded setting.form (signal_from setting moment (take i segments))
    ++ samples_coded setting.form (segment_sound setting (moment_before moment (take i segments)) segment)
signal-next setting moment segments i segment within is =
    let first = signal_from setting moment (take i segments) in
    let here = segment_sound setting (moment_before moment (take i segments)) segment in
    ap (λ (xs : List Segment). samples_coded setting.form (signal_from setting moment xs)) (taken segments i segment within is)
    ∙ ap (samples_coded setting.form) (signal-append setting moment (take i segments) (segment ∷ []))
    ∙ ap (λ (xs : List ℤ). samples_coded setting.form (first ++ xs)) (append-nil here)
    ∙ flat_map-append (sample_coded setting.form) first here

-- the bytes of segments are those of the first ones, of the next, and of the rest
pub signal-parts : (setting : Setting) (moment : Moment) (segments : List Segment) (i : ℕ) (segment : Segment)
    → i < length segments → segment ≡ get_or segments i segment
    → samples_coded setting.form (signal_from setting moment segments)
    ≡ samples_coded setting.form (signal_from setting moment (take i segments))
    ++ (samples_coded setting.form (segment_sound setting (moment_before moment (take i segments)) segment)
    ++ samples_coded setting.form (signal_from setting
    (moment_after (moment_before moment (take i segments)) (segment.ms * 8)) (drop (suc i) segments)))
signal-parts setting moment segments i segment within is =
    let at : Moment = moment_before moment (take i segments) in
    let here : List ℤ = segment_sound setting at segment in
    let later : List ℤ = signal_from setting (moment_after at (segment.ms * 8)) (drop (suc i) segments) in
    let rest : drop i segments ≡ segment ∷ drop (suc i) segments =
    drop-cons segments i segment within ∙ ap (λ s. s ∷ drop (suc i) segments) (sym is) in
    let parts : segments ≡ take i segments ++ (segment ∷ drop (suc i) segments) =
    sym (take-append-drop i segments) ∙ ap (λ xs. take i segments ++ xs) rest in
    ap (λ xs. samples_coded setting.form (signal_from setting moment xs)) parts
    ∙ ap (samples_coded setting.form) (signal-append setting moment (take i segments) (segment ∷ drop (suc i) segments))
    ∙ flat_map-append (sample_coded setting.form) (signal_from setting moment (take i segments)) (here ++ later)
    ∙ ap (λ xs. samples_coded setting.form (signal_from setting moment (take i segments)) ++ xs) (flat_map-append (sample_coded setting.form) here later)
