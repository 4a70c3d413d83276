-- What an office writes of a key, of the end of the keys, and of a text line.
use Rattle.std.proofs.Common.{◌≡◌, ◌∙◌, ℕ, List, [], ◌∷◌, ◌++◌, Option, Some, None, Result, Ok, Err, ap, ap₂, refl, sym, subst, append-nil}
use Rattle.std.specs.Io.KnownBytes.{Appends}
use Rattle.std.specs.Option.{option_to_list}
use Rattle.std.proofs.KnownBytes.{Appends-trans}
use Rattle.xb_incoming.specs.declared.key.TimedKey.{TimedKey}
use Rattle.xb_incoming.specs.declared.register.Register.{Register}
use Rattle.xb_incoming.specs.Attempts.{outcomes}
use Rattle.xb_incoming.specs.Machine.{HasTaken, told_by}
use Rattle.xb_model.specs.declared.dialled.Dialled.{Dialled}
use Rattle.xb_model.specs.declared.order.Order.{Order}
use Rattle.xb_outgoing.specs.Tables.{Outgoing, outgoing_order}
use Rattle.xb_text.specs.Writing.{AppendsBeginning}
use Rattle.xb_text.proofs.Beginnings.{AppendsBeginning-first, AppendsBeginning-second}
use Rattle.xb_tandem.specs.declared.fault.WritingFault.{WritingFault}
use Rattle.xb_tandem.specs.declared.fault.WritingFault.TheVariants as writing
use Rattle.xb_tandem.specs.declared.office.Office.{Office}
use Rattle.xb_tandem.specs.Entries.{keyed_in, left_out, orders_of, orders_of_keys, page_of_keys, refused_in, told_of_keys, told_orders, totals_line}
use Rattle.xb_tandem.specs.Faults.{of_writing}
use Rattle.xb_tandem.specs.KeyLines.{key_of_line}
use Rattle.xb_tandem.specs.Relaying.{BeganLine, TakesLine}
use Rattle.xb_tandem.specs.TextLines.{key_read}
use Rattle.xb_tandem.specs.Written.{Ends, Finishes, HasTold, HasWritten, IsWithCounts, Takes, Tells, left_of}
use Rattle.xb_tandem.proofs.Written.{left-told, orders-none, orders-one, taken-told, told-first}

-- the office with another register
abbrev pub with_register : Office → Register → Office
with_register office register = record {
  form = office.form;
  line = office.line;
  table = office.table;
  register = register;
  keyed = office.keyed;
  refused = office.refused;
  dialled = office.dialled;
}

told-with : (office : Office) (register : Register) (orders : List Order) (start out : Option (List ℕ))
    → HasTold office orders start out → HasTold (with_register office register) orders start out
told-with office register orders start out told =
    record {
      number = told.number;
      keyed = told.keyed;
      refused = told.refused;
      dialled = told.dialled;
      text = told.text;
    }

-- what is told of orders is what is told of keys
takes-by : (limit : ℕ) (office : Office) (keys : List TimedKey) (r : Result (Unit {0}) WritingFault)
    (start out : Option (List ℕ)) → HasTaken limit office.register keys (told_by limit keys)
    → Tells office (orders_of office.table (told_by limit keys)) r start out → Takes limit office keys r start out
takes-by limit office keys (Ok u) start out taken told = record { taken = taken; told = told }
takes-by limit office keys (Err f) start out taken told = told

module _ (limit : ℕ) (old : Office) (register : Register) (keys : List TimedKey) (key : TimedKey)
    (found : Option Dialled) (start mid : Option (List ℕ)) (has : HasWritten limit old keys start mid)
    (took : HasTaken limit register (keys ++ key ∷ []) (told_by limit keys ++ option_to_list found)) where
  pub takes-some : (new : Office) (outcome : Dialled) (r : Result (Unit {0}) WritingFault) (out : Option (List ℕ))
      → found ≡ Some outcome → IsWithCounts (with_register old register) new
      → ((orders : List Order) (begun : Option (List ℕ)) → HasTold (with_register old register) orders begun mid
      → Tells new (orders ++ outgoing_order old.table outcome ∷ []) r begun out)
      → Takes limit new (keys ++ key ∷ []) r start out
  takes-some new outcome r out is same tells =
      let given = subst (λ f. told_by limit keys ++ option_to_list f ≡ told_by limit (keys ++ key ∷ [])) is took.given in
      takes-by limit new (keys ++ key ∷ []) r start out
      (subst (λ reg. HasTaken limit reg (keys ++ key ∷ []) (told_by limit (keys ++ key ∷ []))) (sym same.register)
      (taken-told limit register (keys ++ key ∷ []) _ took))
      (subst (λ (t : Outgoing). Tells new (orders_of t (told_by limit (keys ++ key ∷ []))) r start out) (sym same.table)
      (subst (λ orders. Tells new orders r start out) (orders-one old.table (told_by limit keys) outcome _ given)
      (tells (orders_of old.table (told_by limit keys)) start (told-with old register _ start mid has.told))))

  pub takes-none : found ≡ None → HasWritten limit (with_register old register) (keys ++ key ∷ []) start mid
  takes-none is =
      let given = subst (λ f. told_by limit keys ++ option_to_list f ≡ told_by limit (keys ++ key ∷ [])) is took.given in record {
        taken = taken-told limit register (keys ++ key ∷ []) _ took;
        told = subst (λ orders. HasTold (with_register old register) orders start mid)
            (orders-none old.table (told_by limit keys) _ given)
            (told-with old register _ start mid has.told);
      }

module _ (limit : ℕ) (old : Office) (keys : List TimedKey) (found : Option Dialled) (start mid : Option (List ℕ))
    (has : HasWritten limit old keys start mid)
    (ended : told_by limit keys ++ option_to_list found ≡ outcomes limit keys) where
  pub finishes-some : (new : Office) (outcome : Dialled) (r : Result (Unit {0}) WritingFault) (out : Option (List ℕ))
      → found ≡ Some outcome → IsWithCounts old new
      → ((orders : List Order) (begun : Option (List ℕ)) → HasTold old orders begun mid
      → Tells new (orders ++ outgoing_order old.table outcome ∷ []) r begun out)
      → Finishes limit new keys r start out
  finishes-some new outcome r out is same tells =
      let given = subst (λ f. told_by limit keys ++ option_to_list f ≡ outcomes limit keys) is ended in
      subst (λ (t : Outgoing). Tells new (orders_of t (outcomes limit keys)) r start out) (sym same.table)
      (subst (λ orders. Tells new orders r start out) (orders-one old.table (told_by limit keys) outcome _ given)
      (tells (orders_of old.table (told_by limit keys)) start has.told))

  pub finishes-none : found ≡ None → Finishes limit old keys (Ok tt) start mid
  finishes-none is =
      let given = subst (λ f. told_by limit keys ++ option_to_list f ≡ outcomes limit keys) is ended in
      subst (λ orders. HasTold old orders start mid) (orders-none old.table (told_by limit keys) _ given) has.told

-- the end of the keys
module _ (limit : ℕ) (old new : Office) (keys : List TimedKey) (start : Option (List ℕ)) (same : IsWithCounts old new) where
  abbrev orders : List Order
  orders = orders_of new.table (outcomes limit keys)

  page-same : page_of_keys new.form new.line limit new.table keys ≡ page_of_keys old.form old.line limit old.table keys
  page-same =
      ap (λ f. page_of_keys f new.line limit new.table keys) same.form
      ∙ ap (λ l. page_of_keys old.form l limit new.table keys) same.line
      ∙ ap (λ t. page_of_keys old.form old.line limit t keys) same.table

  abbrev totals : List ℕ
  totals = totals_line new.form (keyed_in new.table.pulsed orders) (refused_in new.table.pulsed orders)

  totals-are : (mid : Option (List ℕ)) → HasTold new orders start mid
      → totals_line new.form new.keyed new.refused ≡ totals
  totals-are mid told = ap₂ (λ k r. totals_line new.form k r) told.keyed told.refused

  pub ends-unfinished : (out : Option (List ℕ)) (f g : WritingFault) → Finishes limit new keys (Err f) start out
      → Ends limit old keys (Err g) start out
  ends-unfinished out f g begun =
      subst (AppendsBeginning start out) page-same
      (AppendsBeginning-first start out (told_orders new.form new.line new.table.pulsed orders) totals begun)

  pub ends-untold : (mid : Option (List ℕ)) (f : WritingFault) → Finishes limit new keys (Ok tt) start mid
      → Ends limit old keys (Err f) start mid
  ends-untold mid f told =
      subst (AppendsBeginning start mid) page-same (told-first new orders start mid told totals)

  pub ends-unwritten : (mid out : Option (List ℕ)) (f : WritingFault) → Finishes limit new keys (Ok tt) start mid
      → AppendsBeginning mid out (totals_line new.form new.keyed new.refused) → Ends limit old keys (Err f) start out
  ends-unwritten mid out f told wrote =
      subst (AppendsBeginning start out) page-same
      (AppendsBeginning-second start mid out (told_orders new.form new.line new.table.pulsed orders) totals told.text
      (subst (AppendsBeginning mid out) (totals-are mid told) wrote))

  left-same : left_out new.form new.table.pulsed orders
      ≡ left_out old.form old.table.pulsed (orders_of_keys limit old.table keys)
  left-same =
      ap (λ f. left_out f new.table.pulsed orders) same.form
      ∙ ap (λ (t : Outgoing). left_out old.form t.pulsed (orders_of_keys limit t keys)) same.table

  pub ends-written : (mid out : Option (List ℕ)) (left : ℕ) → left ≡ left_of new → Finishes limit new keys (Ok tt) start mid
      → Appends mid out (totals_line new.form new.keyed new.refused) → Ends limit old keys (Ok left) start out
  ends-written mid out left is told wrote = (
    is ∙ left-told new orders start mid told ∙ left-same,
    subst (Appends start out) page-same
        (Appends-trans start mid out (told_orders new.form new.line new.table.pulsed orders) totals told.text
        (subst (Appends mid out) (totals-are mid told) wrote)),
  )

-- a key of a line was begun
pub began-key : (limit n : ℕ) (office : Office) (keys : List TimedKey) (key : TimedKey) (line : List ℕ) (f : WritingFault)
    (start out : Option (List ℕ)) → key_of_line line ≡ Ok (Some key)
    → Takes limit office (keys ++ key ∷ []) (Err f) start out → TakesLine limit office keys n line (Err (of_writing f)) start out
began-key limit n office keys key line writing.Write start out is begun =
    record { first = key ∷ []; more = []; are = ap (λ said. key_read said []) is; begun = begun }
began-key limit n office keys key line writing.NoMemory start out is begun =
    record { first = key ∷ []; more = []; are = ap (λ said. key_read said []) is; begun = begun }

-- nothing of a line was
pub began-none : (limit : ℕ) (office : Office) (keys : List TimedKey) (line : List ℕ) (start out : Option (List ℕ))
    → HasWritten limit office keys start out → BeganLine limit office keys line start out
began-none limit office keys line start out has = record {
  first = [];
  more = key_read (key_of_line line) [];
  are = refl;
  begun = subst (λ ks. AppendsBeginning start out (told_of_keys office.form office.line limit office.table ks))
      (sym (append-nil keys))
      (subst (AppendsBeginning start out) (append-nil _)
      (told-first office (orders_of office.table (told_by limit keys)) start out has.told []));
}

pub said-none : (limit n : ℕ) (office : Office) (keys : List TimedKey) (line : List ℕ) (start out : Option (List ℕ))
    → key_of_line line ≡ Ok None → HasWritten limit office keys start out
    → TakesLine limit office keys n line (Ok tt) start out
said-none limit n office keys line start out is has =
    (None, is, subst (λ ks. HasWritten limit office ks start out) (sym (append-nil keys)) has)
