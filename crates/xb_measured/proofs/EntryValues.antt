-- The object of an entry has no float.
use Rattle.std.proofs.Common.{◌≡◌, ℕ, false, List, [], ◌∷◌, map, refl}
use Rattle.serde_json.specs.View.{items_of}
use Rattle.serde_json.specs.Written.{has_float, items_have_float}
use Rattle.xb_measured.specs.declared.heard.Heard.{Heard}
use Rattle.xb_json.proofs.KeyValues.{no-floats-in-keys}
use Rattle.xb_measured.specs.declared.doubts.Doubt.{Doubt}
use Rattle.xb_measured.specs.Doubts.{doubts_of}
use Rattle.xb_measured.specs.Entries.{doubt_object, entry_object}
use Rattle.xb_measured.specs.Keyings.{digits_in}

no-floats-in-doubts : (doubts : List Doubt) → items_have_float (items_of (map doubt_object doubts)) ≡ false
no-floats-in-doubts [] = refl
no-floats-in-doubts (doubt ∷ doubts) = no-floats-in-doubts doubts

pub no-floats : (n : ℕ) (keys : List Heard) → has_float (entry_object n keys) ≡ false
no-floats n keys = rw (no-floats-in-doubts (doubts_of keys), no-floats-in-keys (digits_in keys)) refl
