-- A key has the same times when it is measured.
use Rattle.std.proofs.Common.{◌≡◌, ℕ, List, refl, ℤ, Option, Some, None}
use Rattle.xb_ear.specs.declared.hearing.Heard.{Heard}
use Rattle.xb_measured.specs.declared.heard.Onsets.{Onsets}
use Rattle.xb_measured.specs.Blanks.{blank_in}
use Rattle.xb_measured.specs.Figures.{length_ms, start_ms}
use Rattle.xb_measured.specs.Onsets.{onsets_of}
use Rattle.xb_measured.specs.Stretches.{heard_at, places_of, strongest}
use Rattle.xb_measured.specs.Tapes.{gone_of, kept_of}
use Rattle.xb_laws.specs.Timed.{TimesAreTold, begin_of, length_of}

same-times : (kept : List ℤ) (key : Heard) (onsets : Option Onsets) (blank : ℕ) (place : Option ℕ)
    → (start_ms (heard_at kept key onsets blank place) ≡ begin_of key)
    × (length_ms (heard_at kept key onsets blank place) ≡ length_of key)
same-times kept key onsets blank None = (refl, refl)
same-times kept key onsets blank (Some place) = (refl, refl)

pub times_told : TimesAreTold
times_told samples key =
    same-times (kept_of samples) key (onsets_of (kept_of samples) (gone_of samples) key) (blank_in samples key)
    (strongest (kept_of samples) None (places_of (kept_of samples) (gone_of samples) key))
