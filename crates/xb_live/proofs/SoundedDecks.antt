-- What is returned for a deck whose line sounds.
use Rattle.std.proofs.Common.{◌≡◌, ◌≢◌, ◌-◌, ◌^◌, ℕ, List, Option, Some, None, option_map, Result, Err, Ok, inl, inr, refl, ⊎_elim}
use Rattle.std.proofs.KnownBytes.{Keeps-refl}
use Rattle.xb_model.specs.Sources.{Rest}
use Rattle.xb_deck.specs.declared.deck.TheConstants.{MOST_DECK_BYTES}
use Rattle.xb_deck.specs.declared.table.TableFault.{TableFault}
use Rattle.xb_deck.specs.declared.table.TableFault.TheVariants as table_fault
use Rattle.xb_deck.specs.Tables.{IsCutAfter, IsTableFault}
use Rattle.xb_routes.specs.declared.fault.RouteFault.{RouteFault}
use Rattle.xb_routes.specs.declared.fault.RouteFault.TheVariants as route_fault
use Rattle.xb_routes.specs.Table.{Table}
use Rattle.xb_routes.specs.Text.{table_of_text}
use Rattle.xb_rows.specs.Streams.{rest_of_stream}
use Rattle.xb_sound.specs.declared.cadence.Cadence.{Cadence}
use Rattle.xb_live.specs.declared.fault.LiveFault.{LiveFault}
use Rattle.xb_live.specs.declared.fault.LiveFault.TheVariants as fault
use Rattle.xb_live.specs.Decks.{Has}
use Rattle.xb_live.specs.Faults.{IsOfRoutes}
use Rattle.xb_live.specs.Starting.{Asked}
use Rattle.xb_live.specs.SoundedDecks.{EndsSound, SoundsDeck, SoundsRest, SoundsRows}
use Rattle.xb_live.proofs.Decks.{refused-deck}

module _ (asked : Asked) (cadence : Cadence) where
  -- a deck that gives no table
  pub sound-table-fault : (input out : Option (List ℕ)) (f : TableFault)
      → IsTableFault MOST_DECK_BYTES input f → SoundsDeck asked cadence input (Err (fault.Deck f)) out out
  sound-table-fault input out table_fault.Read is = inl (Keeps-refl out)
  sound-table-fault input out (table_fault.TooLong most) is = (Keeps-refl out, is)
  sound-table-fault input out table_fault.NoCut is = (Keeps-refl out, is)
  sound-table-fault input out table_fault.NoMemory is = inl (Keeps-refl out)

  -- a table that is refused
  pub sound-routes-fault : (input left out : Option (List ℕ)) (text : List ℕ) (f : RouteFault) (e : LiveFault)
      → IsCutAfter text input left → (f ≢ route_fault.NoMemory → table_of_text text ≡ Err f) → IsOfRoutes f e → SoundsDeck asked cadence input (Err e) out out
  sound-routes-fault input left out text f e cut is of =
      ⊎_elim (λ m. rw (m.1) (inl (Keeps-refl out))) (λ o. rw (o.1) (Keeps-refl out, refused-deck text f input left cut (is o.0))) of

  -- what is returned for rows of bytes that are not known
  of_unknown : (result : Result ℕ LiveFault) (old new : Option (List ℕ)) → EndsSound result → SoundsDeck asked cadence None result old new
  of_unknown (Ok u) old new ends = tt
  of_unknown (Err (fault.Deck table_fault.Read)) old new ends = inr tt
  of_unknown (Err (fault.Deck table_fault.NoCut)) old new ends = absurd ends
  of_unknown (Err (fault.Deck (table_fault.TooLong most))) old new ends = absurd ends
  of_unknown (Err (fault.Deck table_fault.NoMemory)) old new ends = inr tt
  of_unknown (Err (fault.Routes f)) old new ends = absurd ends
  of_unknown (Err (fault.Rows f)) old new ends = tt
  of_unknown (Err fault.TooMany) old new ends = tt
  of_unknown (Err (fault.Entries f)) old new ends = tt
  of_unknown (Err (fault.Cadence f)) old new ends = absurd ends
  of_unknown (Err (fault.Sound f)) old new ends = tt

  -- what is written of rows ends them
  ends_rows : (table : Table) (rest : Rest) (result : Result ℕ LiveFault) (old new : Option (List ℕ)) → SoundsRest asked cadence table rest result old new → EndsSound result
  ends_rows table rest (Ok u) old new h = tt
  ends_rows table rest (Err (fault.Deck table_fault.Read)) old new h = tt
  ends_rows table rest (Err (fault.Deck table_fault.NoCut)) old new h = h
  ends_rows table rest (Err (fault.Deck (table_fault.TooLong most))) old new h = h
  ends_rows table rest (Err (fault.Deck table_fault.NoMemory)) old new h = tt
  ends_rows table rest (Err (fault.Routes f)) old new h = h
  ends_rows table rest (Err (fault.Rows f)) old new h = tt
  ends_rows table rest (Err fault.TooMany) old new h = tt
  ends_rows table rest (Err (fault.Entries f)) old new h = tt
  ends_rows table rest (Err (fault.Cadence f)) old new h = h
  ends_rows table rest (Err (fault.Sound f)) old new h = tt

  -- what is returned for a deck that has these rows
  of_known : (deck : List ℕ) (table : Table) (rest : Rest) (result : Result ℕ LiveFault) (old new : Option (List ℕ)) → Has deck table rest → SoundsRest asked cadence table rest result old new → SoundsDeck asked cadence (Some deck) result old new
  of_known deck table rest (Ok u) old new has h = (table, (rest, has, h))
  of_known deck table rest (Err (fault.Deck table_fault.Read)) old new has h = inr (table, (rest, has, h))
  of_known deck table rest (Err (fault.Deck table_fault.NoCut)) old new has h = absurd h
  of_known deck table rest (Err (fault.Deck (table_fault.TooLong most))) old new has h = absurd h
  of_known deck table rest (Err (fault.Deck table_fault.NoMemory)) old new has h = inr (table, (rest, has, h))
  of_known deck table rest (Err (fault.Routes f)) old new has h = absurd h
  of_known deck table rest (Err (fault.Rows f)) old new has h = (table, (rest, has, h))
  of_known deck table rest (Err fault.TooMany) old new has h = (table, (rest, has, h))
  of_known deck table rest (Err (fault.Entries f)) old new has h = absurd h
  of_known deck table rest (Err (fault.Cadence f)) old new has h = absurd h
  of_known deck table rest (Err (fault.Sound f)) old new has h = (table, (rest, has, h))

  -- a deck whose table is read
  pub sound-deck-run : (table : Table) (text : List ℕ) (input left : Option (List ℕ)) (result : Result ℕ LiveFault) (old new : Option (List ℕ))
      → IsCutAfter text input left → table_of_text text ≡ Ok table
      → SoundsRows asked cadence table (option_map (rest_of_stream (2 ^ 64 - 1)) left) result old new
      → SoundsDeck asked cadence input result old new
  sound-deck-run table text None None result old new cut reads sounds = of_unknown result old new sounds
  sound-deck-run table text None (Some rows) result old new cut reads sounds =
      of_unknown result old new (ends_rows table (rest_of_stream (2 ^ 64 - 1) rows) result old new sounds)
  sound-deck-run table text (Some deck) None result old new cut reads sounds = absurd cut
  sound-deck-run table text (Some deck) (Some rows) result old new cut reads sounds =
      of_known deck table (rest_of_stream (2 ^ 64 - 1) rows) result old new
      (record { parts = record { table = text; rows = rows }; cut = cut; reads = reads; is = refl }) sounds
