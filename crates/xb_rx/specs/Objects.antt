-- The objects that are written of keys: one of each key, and one of each entry.
use Rattle.std.specs.Prelude.{ℕ, ◌≡◌, ◌+◌, List, [], ◌∷◌, ◌++◌, Option, Some, None}
use Rattle.std.specs.List.{flat_map}
use Rattle.xb_measured.specs.declared.heard.Heard.{Heard}
use Rattle.xb_measured.specs.Figures.{figures_of}
use Rattle.xb_measured.specs.Keyings.{Part, is_keying, is_loose, parts_of}
use Rattle.xb_rx.specs.declared.objects.Objects.{Objects}
use Rattle.xb_rx.specs.Timed.{Timing, entry_line, key_line}

-- the object of the last of these parts, after n entries, where it is a keying; where there are none, what is given
unfoldable pub last_entry : Timing → ℕ → List ℕ → List Part → List ℕ
last_entry timing n line [] = line
last_entry timing n line (is_keying keys ∷ parts) =
    last_entry timing (n + 1) (entry_line timing (n + 1) keys) parts
last_entry timing n line (is_loose key ∷ parts) = last_entry timing n [] parts

-- the object of the entry that these keys end with, if they do, after n entries
abbrev pub entry_ended : Timing → ℕ → List Heard → List ℕ
entry_ended timing n keys = last_entry timing n [] (parts_of keys)

-- what is written of a key: that of the entry that it ends, if it does, and its object
pub record Told : Type 0 where
  pub key : List ℕ
  pub entry : List ℕ

-- the same of each key that comes after n entries and some keys, of which this was the last
unfoldable pub told_after : Timing → ℕ → List Heard → Option Heard → List Heard → List Told
told_after timing n earlier last [] = []
told_after timing n earlier last (key ∷ keys) =
    record { key = key_line timing (figures_of last key); entry = entry_ended timing n (earlier ++ key ∷ []) }
    ∷ told_after timing n (earlier ++ key ∷ []) (Some key) keys

abbrev pub objects_after : Timing → ℕ → List Heard → Option Heard → List Heard → List ℕ
objects_after timing n earlier last keys =
    flat_map (λ (t : Told). t.entry ++ t.key) (told_after timing n earlier last keys)

-- the objects of keys
abbrev pub object_lines : Timing → List Heard → List ℕ
object_lines timing keys = objects_after timing 0 [] None keys

-- the objects of the entries among parts, where the next has this number
unfoldable pub entry_lines : Timing → ℕ → List Part → List ℕ
entry_lines timing n [] = []
entry_lines timing n (is_keying keys ∷ parts) = entry_line timing n keys ++ entry_lines timing (n + 1) parts
entry_lines timing n (is_loose key ∷ parts) = entry_lines timing n parts

-- the objects of entries are those of the keyings, in order
abbrev pub ObjectsHaveEntries : Type 0
ObjectsHaveEntries = (timing : Timing) (keys : List Heard) →
    flat_map (λ (t : Told). t.entry) (told_after timing 0 [] None keys) ≡ entry_lines timing 1 (parts_of keys)

-- what the objects have so far: the last key, how many entries there were, and the keys of a keying that goes on
pub record Objected : Type 0 where
  pub last : Option Heard
  pub count : ℕ
  pub begun : List Heard

abbrev pub objected : Objects → Objected
objected objects = record { last = objects.last; count = objects.count; begun = objects.begun.items }

-- before the first key
abbrev pub fresh_objects : Objected
fresh_objects = record { last = None; count = 0; begun = [] }

-- what is still to be written of later keys
abbrev pub objects_rest : Timing → Objected → List Heard → List ℕ
objects_rest timing objects later = objects_after timing objects.count objects.begun objects.last later

-- what later keys end with after some keys is what they end with after others
abbrev pub GoOnAs : Timing → ℕ → List Heard → ℕ → List Heard → Type 0
GoOnAs timing n earlier m begun = (key : Heard) (keys : List Heard) →
    entry_ended timing n (earlier ++ key ∷ keys) ≡ entry_ended timing m (begun ++ key ∷ keys)

-- a key ends this entry after some keys, which go on as these
pub record Ended (timing : Timing) (old new : Objected) (key : Heard) (line : List ℕ) : Type 0 where
  pub entry : line ≡ entry_ended timing old.count (old.begun ++ key ∷ [])
  pub goes_on : GoOnAs timing old.count (old.begun ++ key ∷ []) new.count new.begun
