-- What a file of mu-law holds, and how it is read.
use Rattle.std.proofs.Common.{◌∙◌, ℕ, zero, suc, ◌+◌, ◌*◌, ◌≤◌, List, [], ◌∷◌, ◌++◌, map, ap, sym, subst, arith, ℤ, pos, negsuc, ◌+ℤ◌, unsigned_abs}
use Rattle.std.specs.List.{range_with_len}
use Rattle.std.proofs.lemmas.Bool.Decides.{nat_tests}
use Rattle.std.proofs.lemmas.Grind.{flat_map-append}
use Rattle.std.proofs.lemmas.Int.{ints}
use Rattle.xb_chance.specs.Swings.{swing}
use Rattle.xb_riff.specs.Heads.{head_of}
use Rattle.xb_riff.specs.MuLawBytes.{AreCodedAs}
use Rattle.xb_riff.proofs.SignedCodes.{samples_are_coded}
use Rattle.xb_signal.specs.declared.form.Form.{Form}
use Rattle.xb_signal.specs.declared.form.Form.TheVariants.{MuLaw}
use Rattle.xb_signal.specs.declared.moment.Moment.{Moment}
use Rattle.xb_signal.specs.declared.segment.Segment.{Segment}
use Rattle.xb_signal.specs.declared.setting.Setting.{Setting}
use Rattle.xb_signal.specs.Forms.{head_of_form, sample_coded, samples_coded}
use Rattle.xb_signal.specs.Moments.{moment_after, start}
use Rattle.xb_signal.specs.OneSample.{cut, quiet_sample, sample_at}
use Rattle.xb_signal.specs.Segments.{samples_in, segment_sound, signal_from, signal_of}
use Rattle.xb_signal.specs.WritingLaws.{MuLawFilesAreRead, MuLawIsNearest}
use Rattle.xb_signal.proofs.MuLawHeads.{mu_law_is_read}

-- a sample has 16 bits
cut-small : (x : ℤ) → unsigned_abs (cut x) ≤ 32768
cut-small (pos x) = grind (arith, nat_tests, ints)
cut-small (negsuc x) = grind (arith, nat_tests, ints)

-- so each has its nearest byte
coded-append : (xs ys : List ℤ) (us vs : List ℕ) → AreCodedAs xs us → AreCodedAs ys vs → AreCodedAs (xs ++ ys) (us ++ vs)
coded-append [] ys [] vs first later = later
coded-append [] ys (u ∷ us) vs first later = absurd first
coded-append (x ∷ xs) ys [] vs first later = absurd first
coded-append (x ∷ xs) ys (u ∷ us) vs first later = (first.0, coded-append xs ys us vs first.1 later)

coded-map : (f : ℕ → ℤ) → ((n : ℕ) → unsigned_abs (f n) ≤ 32768) → (m i : ℕ)
    → AreCodedAs (map f (range_with_len i m)) (samples_coded MuLaw (map f (range_with_len i m)))
coded-map f small zero i = tt
coded-map f small (suc m) i = (samples_are_coded (f i) (small i), coded-map f small m (i + 1))

coded-from : (setting : Setting) (moment : Moment) (segments : List Segment)
    → AreCodedAs (signal_from setting moment segments) (samples_coded MuLaw (signal_from setting moment segments))
coded-from setting moment [] = tt
coded-from setting moment (segment ∷ later) =
    let here = segment_sound setting moment segment in
    let rest = signal_from setting (moment_after moment (segment.ms * 8)) later in
    subst (λ (bytes : List ℕ). AreCodedAs (here ++ rest) bytes) (sym (flat_map-append (sample_coded MuLaw) here rest))
    (coded-append here rest (samples_coded MuLaw here) (samples_coded MuLaw rest)
    (coded-map (λ n. sample_at setting moment segment.sound n)
    (λ n. cut-small (quiet_sample setting moment segment.sound n +ℤ swing setting.noise_peak moment.noise n))
    (segment.ms * 8) 0)
    (coded-from setting (moment_after moment (segment.ms * 8)) later))

pub mu_law_is_nearest : MuLawIsNearest
mu_law_is_nearest setting segments = coded-from setting (start setting.seed) segments

-- the head says how many bytes there are, and they follow
pub mu_law_files_are_read : MuLawFilesAreRead
mu_law_files_are_read setting segments is fits =
    let samples = signal_of setting segments in
    ap (λ (form : Form). head_of (head_of_form form (samples_in segments) ++ samples_coded form samples)) is
    ∙ mu_law_is_read (samples_in segments) (omega (arith, fits)) (samples_coded MuLaw samples)
