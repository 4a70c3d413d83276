-- The whole of what is written of a recording.
use Rattle.std.proofs.Common.{◌≡◌, ℕ, List, [], ◌++◌, Option, Some, None, refl, ap, sym, subst, ◌∙◌, append_assoc, append-nil, inl, inr, string_bytes}
use Rattle.std.specs.Prelude.{IfErr, IfNone, IfOk, IfSome, Result}
use Rattle.std.specs.Io.KnownBytes.{Appends, Consumes, prepend_known}
use Rattle.std.proofs.KnownBytes.{Appends-trans, Keeps-refl}
use Rattle.std.proofs.lemmas.Result.{IfErr-weaker, IfOk-weaker}
use Rattle.xb_text.specs.Writing.{AppendsBeginning}
use Rattle.xb_text.proofs.Beginnings.{AppendsBeginning-first, AppendsBeginning-second}
use Rattle.xb_contact.specs.declared.event.Event.{Event}
use Rattle.xb_recording.specs.declared.format.Format.{Format}
use Rattle.xb_feed.specs.Beginnings.{IsUntold, TellsForm}
use Rattle.xb_feed.specs.declared.feed.Intake.{Intake}
use Rattle.xb_feed.specs.declared.fault.RecordingFault.{RecordingFault}
use Rattle.xb_feed.specs.declared.fault.RecordingFault.TheVariants as faults
use Rattle.xb_feed.specs.declared.request.Request.{Request}
use Rattle.xb_feed.specs.Feeding.{CannotBegin, Ends, EndsOf, FailsLater, FailsToListen, IsFaultOfRest, IsOfForm, Listens, ListensTo, Starts, Stops, StopsOf, Wrote, watch_asked}
use Rattle.xb_feed.specs.Followers.{Follower}
use Rattle.xb_feed.specs.Watches.{watch_of}
use Rattle.xb_feed.specs.Watching.{Watch, certain_text, notes_of, silent_line, text_of_events, watch_after}
use Rattle.xb_feed.proofs.Fed.{certain-append, hears_then, stands_then, text_then, watch_after-append}
use Rattle.xb_feed.proofs.Stopped.{says_nothing, wrote_then}

-- where the form is not told, or the recording cannot begin, nothing is written
pub form_untold :
    {C G : Type 0} (kind : Follower C G) (header : List ℕ)
    (request : Request G) (before : List ℕ) (fault : RecordingFault) (input out : Option (List ℕ)) → request.format ≡ None
    → IfSome input (λ text. IsUntold text fault) → FailsToListen kind header request before fault input out out
form_untold kind header request before fault None out none untold = tt
form_untold kind header request before fault (Some text) out none untold = inl (Keeps-refl out, inl (none, untold))

pub form_of :
    {G : Type 0} (request : Request G) (format : Format) (input : Option (List ℕ)) → IfSome request.format (λ named. format ≡ named)
    → IfSome input (λ text. IfNone request.format (TellsForm text format))
    → IfSome input (λ text. IsOfForm request text format)
form_of request format None asked told = tt
form_of request format (Some text) asked told = record { asked = asked; told = told }

pub cannot_begin :
    {C G : Type 0} (kind : Follower C G) (header : List ℕ)
    (request : Request G) (before : List ℕ) (format : Format) (fault : RecordingFault) (input out : Option (List ℕ))
    → IfSome input (λ text. IsOfForm request text format) → CannotBegin kind format request fault
    → FailsToListen kind header request before fault input out out
cannot_begin kind header request before format fault None out form cannot = tt
cannot_begin kind header request before format fault (Some text) out form cannot =
    inl (Keeps-refl out, inr (format, form, cannot))

-- a recording that has begun
module _ {C G : Type 0} (kind : Follower C G) (header : List ℕ) (request : Request G) (before : List ℕ) (format : Format) (intake : Intake C G) (starts : Starts kind format request intake)
    (input : Option (List ℕ)) (form : IfSome input (λ text. IsOfForm request text format)) (out : Option (List ℕ)) where
  abbrev start : Watch C G
  start = watch_asked request

  first_rows : string_bytes intake.text ≡ certain_text kind start starts.said
  first_rows = starts.down.records

  fails_unwritten :
      (text : List ℕ) (after : Option (List ℕ)) → IsOfForm request text format
      → AppendsBeginning out after (before ++ (header ++ certain_text kind start starts.said))
      → FailsLater kind header request text before faults.Write out after
  fails_unwritten text after is wrote =
      let A : List ℕ → Type 0 = λ all. AppendsBeginning out after all in
      record {
        format = format;
        form = is;
        taken = [];
        later = text;
        are = refl;
        reader = intake.reader;
        said = starts.said;
        stands = starts.stands;
        more = [];
        why = inl ([], says_nothing intake.reader text, refl);
        wrote = subst A (sym (append-nil (before ++ (header ++ certain_text kind start starts.said)))) wrote;
      }

  unwritten :
      (given : Option (List ℕ)) (after : Option (List ℕ)) → IfSome given (λ text. IsOfForm request text format)
      → AppendsBeginning out after (before ++ (header ++ certain_text kind start starts.said))
      → FailsToListen kind header request before faults.Write given out after
  unwritten None after is wrote = tt
  unwritten (Some text) after is wrote = inr (fails_unwritten text after is wrote)

  with_fault :
      (fault : RecordingFault) (after : Option (List ℕ)) → fault ≡ faults.Write
      → AppendsBeginning out after (before ++ (header ++ certain_text kind start starts.said))
      → FailsToListen kind header request before fault input out after
  with_fault fault after is wrote =
      let P : RecordingFault → Type 0 = λ f. FailsToListen kind header request before f input out after in
      subst P (sym is) (unwritten input after form wrote)

  pub before_unwritten :
      (fault : RecordingFault) (after : Option (List ℕ)) → fault ≡ faults.Write → AppendsBeginning out after before
      → FailsToListen kind header request before fault input out after
  before_unwritten fault after is wrote =
      with_fault fault after is
      (AppendsBeginning-first out after before (header ++ certain_text kind start starts.said) wrote)

  pub header_unwritten :
      (fault : RecordingFault) (mid after : Option (List ℕ)) → fault ≡ faults.Write → Appends out mid before
      → AppendsBeginning mid after header → FailsToListen kind header request before fault input out after
  header_unwritten fault mid after is first wrote =
      with_fault fault after is
      (AppendsBeginning-second out mid after before (header ++ certain_text kind start starts.said) first
      (AppendsBeginning-first mid after header (certain_text kind start starts.said) wrote))

  pub rows_unwritten :
      (fault : RecordingFault) (mid headed after : Option (List ℕ)) → fault ≡ faults.Write → Appends out mid before
      → Appends mid headed header → AppendsBeginning headed after (string_bytes intake.text)
      → FailsToListen kind header request before fault input out after
  rows_unwritten fault mid headed after is first second wrote =
      let A : List ℕ → Type 0 = λ text. AppendsBeginning headed after text in
      with_fault fault after is
      (AppendsBeginning-second out mid after before (header ++ certain_text kind start starts.said) first
      (AppendsBeginning-second mid headed after header (certain_text kind start starts.said) second
      (subst A first_rows wrote)))

  -- all that comes after its beginning
  pub all_before :
      (mid headed begun : Option (List ℕ)) → Appends out mid before → Appends mid headed header
      → Appends headed begun (string_bytes intake.text)
      → Appends out begun (before ++ (header ++ certain_text kind start starts.said))
  all_before mid headed begun first second third =
      let A : List ℕ → Type 0 = λ text. Appends headed begun text in
      Appends-trans out mid begun before (header ++ certain_text kind start starts.said) first
      (Appends-trans mid headed begun header (certain_text kind start starts.said) second (subst A first_rows third))

  module _ (fed : Intake C G) (reader : fed.reader ≡ intake.reader) (known : watch_of fed.lines ≡ watch_of intake.lines)
      (begun : Option (List ℕ)) (wrote_before : Appends out begun (before ++ (header ++ certain_text kind start starts.said)))
    where
      now : watch_of fed.lines ≡ watch_after kind start starts.said
      now = known ∙ starts.down.known

      fails :
          (text : List ℕ) (fault : RecordingFault) (after : Option (List ℕ)) → IsOfForm request text format
          → Stops kind fed.reader (watch_of fed.lines) text fault begun after → FailsLater kind header request text before fault out after
      fails text fault after is s =
          let K : Watch C G → Type 0 = λ w. IsFaultOfRest kind s.there w s.later fault s.text in
          let W : List ℕ → Type 0 = λ all. Wrote fault out after all in
          let all_said : List ℕ = certain_text kind start starts.said in
          record {
            format = format;
            form = is;
            taken = s.taken;
            later = s.later;
            are = s.are;
            reader = s.there;
            said = starts.said ++ s.said;
            stands =
                stands_then format request.wanted intake.reader s.there [] s.taken starts.said s.said starts.stands
                (rw (sym reader) s.follows);
            more = s.text;
            why =
                subst K (ap (λ w. watch_after kind w s.said) now ∙ sym (watch_after-append kind start starts.said s.said)) s.why;
            wrote =
                subst W
                (ap (λ w. (before ++ (header ++ all_said)) ++ (certain_text kind w s.said ++ s.text)) now
                ∙ sym (append_assoc (before ++ (header ++ all_said)) (certain_text kind (watch_after kind start starts.said) s.said) s.text)
                ∙ ap (λ text. text ++ s.text)
                (append_assoc before (header ++ all_said) (certain_text kind (watch_after kind start starts.said) s.said)
                ∙ ap (λ text. before ++ text)
                (append_assoc header all_said (certain_text kind (watch_after kind start starts.said) s.said)
                ∙ ap (λ text. header ++ text) (sym (certain-append kind start starts.said s.said)))))
                (wrote_then fault out begun after (before ++ (header ++ certain_text kind start starts.said))
                (certain_text kind (watch_of fed.lines) s.said ++ s.text) wrote_before s.wrote);
          }

      listens :
          (text told : List ℕ) (after : Option (List ℕ)) → IsOfForm request text format
          → Ends kind fed request.said told text begun after
          → (rows : List ℕ) × Listens kind header request text rows told × Appends out after (before ++ rows)
      listens text told after is e =
          let W : List ℕ → Type 0 = λ all. Appends out after all in
          let all_said : List ℕ = certain_text kind start starts.said in
          let all : List Event = starts.said ++ e.events in
          let last : watch_after kind (watch_of fed.lines) e.events ≡ watch_after kind start all =
          ap (λ w. watch_after kind w e.events) now ∙ sym (watch_after-append kind start starts.said e.events) in (
            header ++ text_of_events kind start all,
            record {
              format = format;
              form = is;
              events = all;
              said = starts.stands.says text e.events (rw (sym reader) e.says);
              printed = refl;
              hears = hears_then kind start (watch_of fed.lines) starts.said e.events starts.down.hears now e.hears;
              levels = ap (λ w. silent_line w.lines) (sym last) ∙ e.levels;
              heard = e.heard ∙ ap (notes_of kind request.said) last;
            },
            subst W
                (ap (λ w. (before ++ (header ++ all_said)) ++ text_of_events kind w e.events) now
                ∙ append_assoc before (header ++ all_said) (text_of_events kind (watch_after kind start starts.said) e.events)
                ∙ ap (λ text. before ++ text)
                (append_assoc header all_said (text_of_events kind (watch_after kind start starts.said) e.events)
                ∙ ap (λ text. header ++ text) (sym (text_then kind start starts.said e.events))))
                (Appends-trans out begun after (before ++ (header ++ certain_text kind start starts.said))
                (text_of_events kind (watch_of fed.lines) e.events) wrote_before e.wrote),
          )

      pub whole_fails :
          (beginning : List ℕ) (left after given : Option (List ℕ)) (fault : RecordingFault) → Consumes given left beginning
          → IfSome given (λ text. IsOfForm request text format)
          → StopsOf kind fed (prepend_known beginning left) fault begun after
          → FailsToListen kind header request before fault given out after
      whole_fails beginning left after None fault read is stops = tt
      whole_fails beginning None after (Some text) fault read is stops = absurd read
      whole_fails beginning (Some rest) after (Some text) fault read is stops =
          let P : List ℕ → Type 0 = λ t. Stops kind fed.reader (watch_of fed.lines) t fault begun after in
          inr (fails text fault after is (subst P (sym read) stops))

      pub whole_listens :
          (beginning told : List ℕ) (left after given : Option (List ℕ)) → Consumes given left beginning
          → IfSome given (λ text. IsOfForm request text format)
          → EndsOf kind fed request.said told (prepend_known beginning left) begun after
          → ListensTo kind header request before told given out after
      whole_listens beginning told left after None read is e = tt
      whole_listens beginning told None after (Some text) read is e = absurd read
      whole_listens beginning told (Some rest) after (Some text) read is e =
          let P : List ℕ → Type 0 = λ t. Ends kind fed request.said told t begun after in
          listens text told after is (subst P (sym read) e)

  -- what the result of all that follows says
  pub whole_told :
      {T : Type 0} (bytes_of : T → List ℕ) (fed : Intake C G) (mid headed begun left after : Option (List ℕ))
      (beginning bytes : List ℕ) (result : Result T RecordingFault)
      → Appends out mid before → Appends mid headed header → Appends headed begun (string_bytes intake.text)
      → fed.reader ≡ intake.reader → watch_of fed.lines ≡ watch_of intake.lines
      → Consumes input left bytes → beginning ≡ bytes
      → IfOk result (λ told. EndsOf kind fed request.said (bytes_of told) (prepend_known beginning left) begun after)
      → IfErr result (λ fault. StopsOf kind fed (prepend_known beginning left) fault begun after)
      → IfOk result (λ told. ListensTo kind header request before (bytes_of told) input out after)
      × IfErr result (λ fault. FailsToListen kind header request before fault input out after)
  whole_told bytes_of fed mid headed begun left after beginning bytes result first second third reader known read same ends stops =
      let K : List ℕ → Type 0 = λ b. Consumes input left b in
      let own : K beginning = subst K (sym same) read in
      let wrote = all_before mid headed begun first second third in (
        IfOk-weaker result _ _
            (λ told e. whole_listens fed reader known begun wrote beginning (bytes_of told) left after input own form e) ends,
        IfErr-weaker result _ _
            (λ fault s. whole_fails fed reader known begun wrote beginning left after input fault own form s) stops,
      )
