-- What an office has written, and what it then writes.
use Rattle.std.proofs.Common.{◌≡◌, ◌∙◌, ℕ, ◌+◌, Bool, true, false, List, [], ◌∷◌, ◌++◌, length, Option, Some, None, ap, ap₂, refl, sym, subst, arith, append-nil, length-append}
use Rattle.std.specs.Prelude.{count_by, if◌then◌else◌, not}
use Rattle.std.specs.Io.KnownBytes.{Appends}
use Rattle.std.specs.Option.{option_to_list}
use Rattle.std.proofs.KnownBytes.{Appends-nil, Appends-trans}
use Rattle.std.proofs.lemmas.List.{map-append}
use Rattle.std.proofs.lemmas.List.Sums.{sum_by-append, sum_by-cons}
use Rattle.xb_incoming.specs.declared.key.TimedKey.{TimedKey}
use Rattle.xb_incoming.specs.declared.register.Register.{Register}
use Rattle.xb_incoming.specs.Machine.{HasTaken, told_by}
use Rattle.xb_model.specs.declared.dialled.Dialled.{Dialled}
use Rattle.xb_model.specs.declared.order.Order.{Order}
use Rattle.xb_outgoing.specs.Tables.{Outgoing, is_dialled, outgoing_order}
use Rattle.xb_text.specs.Writing.{AppendsBeginning}
use Rattle.xb_text.proofs.Beginnings.{AppendsBeginning-second}
use Rattle.xb_tandem.specs.declared.office.Office.{Office}
use Rattle.xb_tandem.specs.declared.request.Form.{Form}
use Rattle.xb_tandem.specs.declared.request.Form.TheVariants as forms
use Rattle.xb_tandem.specs.Entries.{dialled_numbers, is_keying, is_refusal, keyed_in, left_out, on_page, order_line, orders_of, refused_in, told_orders}
use Rattle.xb_tandem.specs.Written.{CountsOne, HasTold, IsWithCounts, left_by, left_of}
use Rattle.xb_tandem.proofs.ToldOrders.{numbers-append, numbers-none, numbers-one, page-append, page-none, page-one, told-order}

pub none-written : (old : Option (List ℕ)) (bytes : List ℕ) → AppendsBeginning old old bytes
none-written old bytes = (0, Appends-nil old)

-- an order is dialled, keyed or refused
abbrev one : Bool → ℕ
one refused = if refused then 1 else 0

abbrev none : Bool → ℕ
none refused = if refused then 0 else 1

abbrev kept : Bool → ℕ
kept refused = if not refused then 1 else 0

abbrev one_if : Bool → Bool → ℕ
one_if dialled refused = if dialled then 0 else one refused

abbrev none_if : Bool → Bool → ℕ
none_if dialled refused = if dialled then 0 else none refused

sum-one : (refused : Bool) → none refused + one refused ≡ 1
sum-one true = refl
sum-one false = refl

kept-one : (refused : Bool) → none refused ≡ kept refused
kept-one true = refl
kept-one false = refl

-- the counts of one order
record OneCounts (pulsed : List ℕ) (order : Order) : Type 0 where
  entries : none_if (is_dialled pulsed order) (is_refusal order) + one_if (is_dialled pulsed order) (is_refusal order)
      ≡ length (on_page pulsed (order ∷ []))
  keyed : none_if (is_dialled pulsed order) (is_refusal order) ≡ keyed_in pulsed (order ∷ [])
  refused : one_if (is_dialled pulsed order) (is_refusal order) ≡ refused_in pulsed (order ∷ [])
  dialled : (if is_dialled pulsed order then 1 else 0) ≡ length (dialled_numbers pulsed (order ∷ []))

counts-of-one : (test : Order → Bool) (order : Order) → count_by test (order ∷ []) ≡ one (test order)
counts-of-one test order = sum_by-cons (λ o. one (test o)) order [] ∙ at (test order)
  where
    at : (is : Bool) → one is + 0 ≡ one is
    at true = refl
    at false = refl

counts-of-none : (test : Order → Bool) → 0 ≡ count_by test []
counts-of-none test = refl

one-counts : (pulsed : List ℕ) (order : Order) → OneCounts pulsed order
one-counts pulsed order = at (is_dialled pulsed order) refl
  where
    at : (d : Bool) → is_dialled pulsed order ≡ d → OneCounts pulsed order
    at true e = record {
      entries = rw e refl ∙ ap length (sym (page-none pulsed order e));
      keyed = rw e refl ∙ counts-of-none is_keying ∙ ap (count_by is_keying) (sym (page-none pulsed order e));
      refused = rw e refl ∙ counts-of-none is_refusal ∙ ap (count_by is_refusal) (sym (page-none pulsed order e));
      dialled = rw e refl ∙ ap length (sym (numbers-one pulsed order e));
    }
    at false e = record {
      entries = rw e (sum-one (is_refusal order)) ∙ ap length (sym (page-one pulsed order e));
      keyed = rw e (kept-one (is_refusal order)) ∙ sym (counts-of-one is_keying order)
          ∙ ap (count_by is_keying) (sym (page-one pulsed order e));
      refused = rw e refl ∙ sym (counts-of-one is_refusal order)
          ∙ ap (count_by is_refusal) (sym (page-one pulsed order e));
      dialled = rw e refl ∙ ap length (sym (numbers-none pulsed order e));
    }

-- counts of orders, and of one more
counts-more : (test : Order → Bool) (pulsed : List ℕ) (orders : List Order) (order : Order)
    → count_by test (on_page pulsed (orders ++ order ∷ []))
    ≡ count_by test (on_page pulsed orders) + count_by test (on_page pulsed (order ∷ []))
counts-more test pulsed orders order =
    ap (count_by test) (page-append pulsed orders (order ∷ []))
    ∙ sum_by-append (λ o. if test o then 1 else 0) (on_page pulsed orders) (on_page pulsed (order ∷ []))

module _ (old new : Office) (orders : List Order) (order : Order) (start mid : Option (List ℕ))
    (told : HasTold old orders start mid) where
  abbrev told-line : List ℕ
  told-line = order_line old.form old.line old.table.pulsed (old.keyed + old.refused) old.dialled order

  abbrev told-before : List ℕ
  told-before = told_orders old.form old.line old.table.pulsed orders

  told-now : told-before ++ told-line ≡ told_orders old.form old.line old.table.pulsed (orders ++ order ∷ [])
  told-now = sym (told-order old.line old.table.pulsed orders order (old.keyed + old.refused) old.dialled told.number told.dialled
      old.form)

  more-counts : IsWithCounts old new → CountsOne old new order → (out : Option (List ℕ))
      → Appends start out (told_orders old.form old.line old.table.pulsed (orders ++ order ∷ []))
      → HasTold (record old { keyed = new.keyed; refused = new.refused; dialled = new.dialled }) (orders ++ order ∷ []) start out
  more-counts same counts out wrote =
      let one = one-counts old.table.pulsed order in
      let entries = ap length (page-append old.table.pulsed orders (order ∷ []))
      ∙ length-append (on_page old.table.pulsed orders) (on_page old.table.pulsed (order ∷ [])) in
      let numbers = ap length (numbers-append old.table.pulsed orders (order ∷ []))
      ∙ length-append (dialled_numbers old.table.pulsed orders) (dialled_numbers old.table.pulsed (order ∷ [])) in
      record {
        number = omega (arith, counts.keyed, counts.refused, told.number, one.entries, entries);
        keyed = counts.keyed ∙ ap₂ (λ a b. a + b) told.keyed one.keyed
            ∙ sym (counts-more is_keying old.table.pulsed orders order);
        refused = counts.refused ∙ ap₂ (λ a b. a + b) told.refused one.refused
            ∙ sym (counts-more is_refusal old.table.pulsed orders order);
        dialled = counts.dialled ∙ ap₂ (λ a b. a + b) told.dialled one.dialled ∙ sym numbers;
        text = wrote;
      }

  -- one order more was told, and is counted
  pub told-more : (out : Option (List ℕ)) → IsWithCounts old new → CountsOne old new order → Appends mid out told-line
      → HasTold new (orders ++ order ∷ []) start out
  told-more out same counts wrote =
      let more = more-counts same counts out
      (subst (Appends start out) told-now (Appends-trans start mid out told-before told-line told.text wrote)) in
      let pulsed = ap (λ (t : Outgoing). t.pulsed) (sym same.table) in
      record {
        number = more.number ∙ ap (λ p. length (on_page p (orders ++ order ∷ []))) pulsed;
        keyed = more.keyed ∙ ap (λ p. keyed_in p (orders ++ order ∷ [])) pulsed;
        refused = more.refused ∙ ap (λ p. refused_in p (orders ++ order ∷ [])) pulsed;
        dialled = more.dialled ∙ ap (λ p. length (dialled_numbers p (orders ++ order ∷ []))) pulsed;
        text =
            subst (Appends start out)
            (ap₂ (λ form line. told_orders form line old.table.pulsed (orders ++ order ∷ [])) (sym same.form) (sym same.line)
            ∙ ap (λ p. told_orders new.form new.line p (orders ++ order ∷ [])) pulsed)
            more.text;
      }

  -- or it was begun
  pub told-begun : (out : Option (List ℕ)) → AppendsBeginning mid out told-line
      → AppendsBeginning start out (told_orders old.form old.line old.table.pulsed (orders ++ order ∷ []))
  told-begun out wrote =
      subst (AppendsBeginning start out) told-now
      (AppendsBeginning-second start mid out told-before told-line told.text wrote)

-- all of what there is was written, which is the beginning of what comes
pub told-first : (office : Office) (orders : List Order) (start out : Option (List ℕ)) → HasTold office orders start out
    → (rest : List ℕ) → AppendsBeginning start out (told_orders office.form office.line office.table.pulsed orders ++ rest)
told-first office orders start out told rest =
    AppendsBeginning-second start out out (told_orders office.form office.line office.table.pulsed orders) rest told.text (none-written out rest)

-- what is not in what was written
left-by : (form : Form) (pulsed : List ℕ) (orders : List Order) (entries before : ℕ)
    → entries ≡ length (on_page pulsed orders) → before ≡ length (dialled_numbers pulsed orders)
    → left_by form entries before ≡ left_out form pulsed orders
left-by forms.Page pulsed orders entries before numbered counted = counted
left-by forms.Json pulsed orders entries before numbered counted = refl
left-by forms.Rows pulsed orders entries before numbered counted = numbered

pub left-told : (office : Office) (orders : List Order) (start out : Option (List ℕ)) → HasTold office orders start out
    → left_of office ≡ left_out office.form office.table.pulsed orders
left-told office orders start out told =
    left-by office.form office.table.pulsed orders (office.keyed + office.refused) office.dialled told.number told.dialled

-- what is told with a key, as orders
orders-more : (table : Outgoing) (told : List Dialled) (outcome : Option Dialled) (all : List Dialled)
    → told ++ option_to_list outcome ≡ all
    → orders_of table told ++ orders_of table (option_to_list outcome) ≡ orders_of table all
orders-more table told outcome all is =
    sym (map-append (outgoing_order table) told (option_to_list outcome)) ∙ ap (orders_of table) is

pub orders-one : (table : Outgoing) (told : List Dialled) (outcome : Dialled) (all : List Dialled)
    → told ++ option_to_list (Some outcome) ≡ all
    → orders_of table told ++ outgoing_order table outcome ∷ [] ≡ orders_of table all
orders-one table told outcome all is = orders-more table told (Some outcome) all is

pub orders-none : (table : Outgoing) (told all : List Dialled)
    → told ++ option_to_list None ≡ all → orders_of table told ≡ orders_of table all
orders-none table told all is = ap (orders_of table) (sym (append-nil told) ∙ is)

-- what a register has taken is told by its keys
pub taken-told : (limit : ℕ) (register : Register) (keys : List TimedKey) (told : List Dialled)
    → HasTaken limit register keys told → HasTaken limit register keys (told_by limit keys)
taken-told limit register keys told has = record { waits = has.waits; stands = has.stands; given = refl }
