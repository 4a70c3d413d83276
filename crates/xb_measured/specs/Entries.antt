-- The JSON object of a keying that was heard, as an entry.
use Rattle.std.specs.Prelude.{ℕ, List, ◌-◌, codes, length, map, option_map, slice_get, unwrap_or}
use Rattle.serde_json.specs.Data.{Data, array, member, no_members, number, object, string, unsigned}
use Rattle.serde_json.specs.View.{items_of}
use Rattle.xb_measured.specs.declared.heard.Heard.{Heard}
use Rattle.xb_json.specs.Keys.{digits_text, keys_of}
use Rattle.xb_measured.specs.Figures.{end_ms}
use Rattle.xb_measured.specs.declared.doubts.Doubt.{Doubt}
use Rattle.xb_measured.specs.declared.doubts.DoubtKind.{DoubtKind}
use Rattle.xb_measured.specs.declared.doubts.DoubtKind.TheVariants as kinds
use Rattle.xb_measured.specs.declared.doubts.Effect.{Effect}
use Rattle.xb_measured.specs.declared.doubts.Effect.TheVariants as effects
use Rattle.xb_measured.specs.DoubtLines.{began_ms}
use Rattle.xb_measured.specs.Doubts.{doubts_of}
use Rattle.xb_measured.specs.Keyings.{digits_in}

abbrev pub kind_word : DoubtKind → List ℕ
kind_word kinds.LongGap = codes "LONG_GAP"
kind_word kinds.ShortGap = codes "SHORT_GAP"
kind_word kinds.LongKey = codes "LONG_KEY"
kind_word kinds.ShortKey = codes "SHORT_KEY"

abbrev pub effect_word : Effect → List ℕ
effect_word effects.Missing = codes "MISSING"
effect_word effects.Extra = codes "EXTRA"
effect_word effects.Cut = codes "CUT"

-- a doubt: the number of the key, what does not keep to the rhythm, what may be wrong, its ms, and those that are usual
abbrev pub doubt_object : Doubt → Data
doubt_object d = object
    (member (codes "key") (number (unsigned d.key))
    (member (codes "kind") (string (kind_word d.kind))
    (member (codes "may_be") (string (effect_word d.effect))
    (member (codes "ms") (number (unsigned d.ms))
    (member (codes "usual_ms") (number (unsigned d.usual)) no_members)))))

-- a keying ends with its last key
abbrev pub ended_ms : List Heard → ℕ
ended_ms keys = unwrap_or (option_map end_ms (slice_get keys (length keys - 1))) 0

-- the entry of this number, from one time to another: what was keyed in it, and its doubts
abbrev pub entry_of_parts : ℕ → ℕ → ℕ → List ℕ → Data → Data
entry_of_parts n from to digits doubts = object
    (member (codes "doubts") doubts
    (member (codes "entry") (number (unsigned n))
    (member (codes "from_ms") (number (unsigned from))
    (member (codes "keys") (array (items_of (keys_of digits)))
    (member (codes "sent") (string (digits_text digits))
    (member (codes "to_ms") (number (unsigned to)) no_members))))))

-- the entry of a keying
abbrev pub entry_object : ℕ → List Heard → Data
entry_object n keys =
    entry_of_parts n (began_ms keys) (ended_ms keys) (digits_in keys)
    (array (items_of (map doubt_object (doubts_of keys))))
