-- What is returned for a deck.
use Rattle.std.proofs.Common.{◌≡◌, ◌≢◌, ◌-◌, ◌^◌, ℕ, List, Option, Some, None, IfSome, option_map, Result, Err, Ok, inl, inr, refl, ⊎_elim}
use Rattle.std.proofs.KnownBytes.{Keeps-refl}
use Rattle.xb_model.specs.Sources.{Rest}
use Rattle.xb_deck.specs.declared.deck.TheConstants.{MOST_DECK_BYTES}
use Rattle.xb_deck.specs.declared.table.TableFault.{TableFault}
use Rattle.xb_deck.specs.declared.table.TableFault.TheVariants as table_fault
use Rattle.xb_deck.specs.Deck.{Parts, deck_parts}
use Rattle.xb_deck.specs.Tables.{IsCutAfter, IsTableFault}
use Rattle.xb_routes.specs.declared.fault.RouteFault.{RouteFault}
use Rattle.xb_routes.specs.declared.fault.RouteFault.TheVariants as route_fault
use Rattle.xb_routes.specs.Table.{Table}
use Rattle.xb_routes.specs.Text.{table_of_text}
use Rattle.xb_rows.specs.Streams.{rest_of_stream}
use Rattle.xb_live.specs.Clocks.{Style}
use Rattle.xb_live.specs.declared.fault.LiveFault.{LiveFault}
use Rattle.xb_live.specs.declared.fault.LiveFault.TheVariants as fault
use Rattle.xb_live.specs.Decks.{Has}
use Rattle.xb_live.specs.Faults.{IsOfRoutes}
use Rattle.xb_live.specs.Runs.{EndsRows, Prints, PrintsRows, Runs}

-- a deck that gives no table
pub table-fault : (style : Style) (input out : Option (List ℕ)) (f : TableFault)
    → IsTableFault MOST_DECK_BYTES input f → Runs style input (Err (fault.Deck f)) out out
table-fault style input out table_fault.Read is = inl (Keeps-refl out)
table-fault style input out (table_fault.TooLong most) is = (Keeps-refl out, is)
table-fault style input out table_fault.NoCut is = (Keeps-refl out, is)
table-fault style input out table_fault.NoMemory is = inl (Keeps-refl out)

-- a deck that was cut after a table that is refused has that table
pub refused-deck : (text : List ℕ) (f : RouteFault) (input left : Option (List ℕ)) → IsCutAfter text input left → table_of_text text ≡ Err f → IfSome input (λ deck. (parts : Parts) × (deck_parts deck ≡ Some parts) × (table_of_text parts.table ≡ Err f))
refused-deck text f None left cut refused = tt
refused-deck text f (Some deck) None cut refused = absurd cut
refused-deck text f (Some deck) (Some rows) cut refused = (record { table = text; rows = rows }, cut, refused)

-- a table that is refused
pub routes-fault : (style : Style) (input left out : Option (List ℕ)) (text : List ℕ) (f : RouteFault) (e : LiveFault)
    → IsCutAfter text input left → (f ≢ route_fault.NoMemory → table_of_text text ≡ Err f) → IsOfRoutes f e → Runs style input (Err e) out out
routes-fault style input left out text f e cut is of =
    ⊎_elim (λ m. rw (m.1) (inl (Keeps-refl out))) (λ o. rw (o.1) (Keeps-refl out, refused-deck text f input left cut (is o.0))) of

-- what is returned for rows of bytes that are not known
of_unknown : (style : Style) (result : Result (Unit {0}) LiveFault) (old new : Option (List ℕ)) → EndsRows result → Runs style None result old new
of_unknown style (Ok u) old new ends = tt
of_unknown style (Err (fault.Deck table_fault.Read)) old new ends = inr tt
of_unknown style (Err (fault.Deck table_fault.NoCut)) old new ends = absurd ends
of_unknown style (Err (fault.Deck (table_fault.TooLong most))) old new ends = absurd ends
of_unknown style (Err (fault.Deck table_fault.NoMemory)) old new ends = inr tt
of_unknown style (Err (fault.Routes f)) old new ends = absurd ends
of_unknown style (Err (fault.Rows f)) old new ends = tt
of_unknown style (Err fault.TooMany) old new ends = tt
of_unknown style (Err (fault.Entries f)) old new ends = tt
of_unknown style (Err (fault.Cadence f)) old new ends = absurd ends
of_unknown style (Err (fault.Sound f)) old new ends = tt

-- what is printed of rows ends them
ends_rows : (style : Style) (table : Table) (rest : Rest) (result : Result (Unit {0}) LiveFault) (old new : Option (List ℕ)) → Prints style table rest result old new → EndsRows result
ends_rows style table rest (Ok u) old new h = tt
ends_rows style table rest (Err (fault.Deck table_fault.Read)) old new h = tt
ends_rows style table rest (Err (fault.Deck table_fault.NoCut)) old new h = h
ends_rows style table rest (Err (fault.Deck (table_fault.TooLong most))) old new h = h
ends_rows style table rest (Err (fault.Deck table_fault.NoMemory)) old new h = tt
ends_rows style table rest (Err (fault.Routes f)) old new h = h
ends_rows style table rest (Err (fault.Rows f)) old new h = tt
ends_rows style table rest (Err fault.TooMany) old new h = tt
ends_rows style table rest (Err (fault.Entries f)) old new h = tt
ends_rows style table rest (Err (fault.Cadence f)) old new h = h
ends_rows style table rest (Err (fault.Sound f)) old new h = tt

-- what is returned for a deck that has these rows
of_known : (style : Style) (deck : List ℕ) (table : Table) (rest : Rest) (result : Result (Unit {0}) LiveFault) (old new : Option (List ℕ)) → Has deck table rest → Prints style table rest result old new → Runs style (Some deck) result old new
of_known style deck table rest (Ok u) old new has h = (table, (rest, has, h))
of_known style deck table rest (Err (fault.Deck table_fault.Read)) old new has h = inr (table, (rest, has, h))
of_known style deck table rest (Err (fault.Deck table_fault.NoCut)) old new has h = absurd h
of_known style deck table rest (Err (fault.Deck (table_fault.TooLong most))) old new has h = absurd h
of_known style deck table rest (Err (fault.Deck table_fault.NoMemory)) old new has h = inr (table, (rest, has, h))
of_known style deck table rest (Err (fault.Routes f)) old new has h = absurd h
of_known style deck table rest (Err (fault.Rows f)) old new has h = (table, (rest, has, h))
of_known style deck table rest (Err fault.TooMany) old new has h = (table, (rest, has, h))
of_known style deck table rest (Err (fault.Entries f)) old new has h = (table, (rest, has, h))
of_known style deck table rest (Err (fault.Cadence f)) old new has h = absurd h
of_known style deck table rest (Err (fault.Sound f)) old new has h = absurd h

-- a deck whose table is read
pub deck-run : (style : Style) (table : Table) (text : List ℕ) (input left : Option (List ℕ)) (result : Result (Unit {0}) LiveFault) (old new : Option (List ℕ))
    → IsCutAfter text input left → table_of_text text ≡ Ok table
    → PrintsRows style table (option_map (rest_of_stream (2 ^ 64 - 1)) left) result old new
    → Runs style input result old new
deck-run style table text None None result old new cut reads prints = of_unknown style result old new prints
deck-run style table text None (Some rows) result old new cut reads prints =
    of_unknown style result old new (ends_rows style table (rest_of_stream (2 ^ 64 - 1) rows) result old new prints)
deck-run style table text (Some deck) None result old new cut reads prints = absurd cut
deck-run style table text (Some deck) (Some rows) result old new cut reads prints =
    of_known style deck table (rest_of_stream (2 ^ 64 - 1) rows) result old new
    (record { parts = record { table = text; rows = rows }; cut = cut; reads = reads; is = refl }) prints
