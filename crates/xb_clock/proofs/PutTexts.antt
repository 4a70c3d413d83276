-- An object into which a text is put.
use Rattle.std.proofs.Common.{◌≡◌, ◌∙◌, ℕ, List, String, BTreeMap, Global, string_bytes, string_cmp, ap, rules, sym}
use Rattle.std.specs.BTreeMap.{insert_entry}
use Rattle.serde_json.specs.Data.{object, put, string}
use Rattle.serde_json.specs.View.{members_view, view}
use Rattle.serde_json.specs.declared.value.Value.{Value, Object, String as Text, the_lemmas}
use Rattle.serde_json.proofs.Views.{members_view-insert_entry, view-Object}
use Rattle.xb_clock.specs.Objects.{with_text}

view-String : (text : String Global) → view (Text text) ≡ string (string_bytes text)
view-String text = search (rules, the_lemmas)

-- it has that text
pub inserted : (before after : BTreeMap (String Global) Value) (key text : String Global) (name words : List ℕ)
    → after.entries ≡ insert_entry string_cmp before.entries key (Text text) → string_bytes key ≡ name → string_bytes text ≡ words
    → view (Object after) ≡ with_text name words (view (Object before))
inserted before after key text name words entries named worded =
    view-Object after
    ∙ ap (λ es. object (members_view es)) entries
    ∙ ap object (members_view-insert_entry before.entries key (Text text))
    ∙ ap (λ d. object (put (string_bytes key) d (members_view before.entries))) (view-String text ∙ ap string worded)
    ∙ ap (λ n. object (put n (string words) (members_view before.entries))) named
    ∙ ap (with_text name words) (sym (view-Object before))
