-- How long files are, and which of them are those of a page's calls.
use Rattle.std.proofs.Common.{◌≡◌, ◌∙◌, ℕ, ◌*◌, List, [], ◌∷◌, ◌++◌, length, length-append, ap, sym, arith, refl, ℤ}
use Rattle.xb_sound.specs.Wavs.{header_of, pcm_of}
use Rattle.xb_signal.specs.declared.form.Form.{Form}
use Rattle.xb_signal.specs.declared.form.Form.TheVariants.{Linear, MuLaw}
use Rattle.xb_signal.specs.Forms.{head_bytes, head_of_form, sample_bytes, sample_coded, samples_coded}
use Rattle.xb_signal.specs.Moments.{start}
use Rattle.xb_signal.specs.Segments.{samples_in, signal_of}
use Rattle.xb_signal.specs.WritingLaws.{FilesAreAsLong, LinearFilesAreWavs}
use Rattle.xb_signal.proofs.Parts.{length-signal}

head-length : (form : Form) (n : ℕ) → length (head_of_form form n) ≡ head_bytes form
head-length Linear n = refl
head-length MuLaw n = refl

one-length : (form : Form) (x : ℤ) → length (sample_coded form x) ≡ sample_bytes form
one-length Linear x = refl
one-length MuLaw x = refl

all-length : (form : Form) (xs : List ℤ) → length (samples_coded form xs) ≡ sample_bytes form * length xs
all-length form [] = omega arith
all-length form (x ∷ xs) =
    let here = one-length form x in
    let later = all-length form xs in
    length-append (sample_coded form x) (samples_coded form xs) ∙ omega (arith, here, later)

pub files_are_as_long : FilesAreAsLong
files_are_as_long setting segments =
    let samples = signal_of setting segments in
    let head = head-length setting.form (samples_in segments) in
    let all = all-length setting.form samples in
    let count = ap (λ (n : ℕ). sample_bytes setting.form * n) (length-signal setting (start setting.seed) segments) in
    length-append (head_of_form setting.form (samples_in segments)) (samples_coded setting.form samples)
    ∙ omega (arith, head, all, count)

pub linear_files_are_wavs : LinearFilesAreWavs
linear_files_are_wavs setting segments is =
    let samples = signal_of setting segments in (
      ap (λ (form : Form). head_of_form form (samples_in segments) ++ samples_coded form samples) is
          ∙ ap (λ (n : ℕ). header_of (2 * n) ++ pcm_of samples) (sym (length-signal setting (start setting.seed) segments)),
      ap (λ (form : Form). samples_coded form samples) is,
    )
