use Rattle.std.proofs.Common.{◌≡◌, ℕ, List, Err, ap, sym, subst, ◌∙◌, arith, drop, length, rules}
use Rattle.std.proofs.lemmas.Result.{IfErr-weaker}
use Rattle.std.specs.Prelude.{slice_range}
use Rattle.xb_contact.specs.Steps.{IsRefusedBy, all_say}
use Rattle.xb_vcd.specs.VcdChanges.{vcd_state}
use Rattle.xb_vcd.specs.VcdEvents.{SayAnEvent}
use Rattle.xb_vcd.specs.VcdTexts.{word_before, word_says, words_in, words_of}
use Rattle.xb_vcd.proofs.EventLemmas.{blank_event, event_after_blank, event_after_byte}
use Rattle.xb_vcd.proofs.VcdLemmas.{blank_adds, byte_adds}
use Rattle.xb_vcd.proofs.WordLemmas.{blank_refused, refused_after_blank, refused_after_byte, all_left, words_at_end}
use Rattle.xb_vcd.proofs.vcd.Vcd.take_words.Goals as goal
use Rattle.xb_vcd.proofs.vcd.Vcd.take_words.Goals.{then-is_blank+in_ok-take_piece, else-is_blank}

-- at the end of a line the last word is what is left
last-word : (line : List ℕ) (start end : ℕ) → end ≡ length line
    → words_in (slice_range line start end) (drop end line) ≡ word_before (slice_range line start (length line))
last-word line start end all =
    ap (λ (n : ℕ). words_in (slice_range line start n) (drop n line)) all ∙ words_at_end line start
    ∙ ap word_before (sym (all_left line start))

pub loop-end-preserved : goal.loop-end-preserved
loop-end-preserved c =
    elim c.if-is_blank.branch [
      | then-is_blank+in_ok-take_piece w ↦ record {
        places = omega (arith, w.start-is);
        said = λ new state h. c.loop-end.invariant.said new state
            (blank_adds c.args.line.now c.loop-end.start c.loop-end.end c.if-is_blank.start (vcd_state c.loop-end.self)
            (vcd_state c.if-is_blank.self) (vcd_state w.take_piece.new.self) state c.loop-end.events.items c.if-is_blank.events.items
            w.take_piece.new.events.items new c.loop-end-test.true (sym c.is_blank.ensures ∙ w.if-is_blank.true)
            (ap vcd_state w.self-is) (ap (λ events. events.items) w.events-is) w.start-is w.in_ok-take_piece.ensures.said h);
        refused = λ refusal rest. c.loop-end.invariant.refused refusal
            (refused_after_blank c.args.line.now c.loop-end.start c.loop-end.end c.if-is_blank.start (vcd_state c.loop-end.self)
            (vcd_state c.if-is_blank.self) (vcd_state w.take_piece.new.self) c.loop-end.events.items
            w.take_piece.new.events.items refusal c.loop-end-test.true (sym c.is_blank.ensures ∙ w.if-is_blank.true)
            (ap vcd_state w.self-is) w.start-is w.in_ok-take_piece.ensures.said rest);
        memory = λ rest. c.loop-end.invariant.memory
            (event_after_blank c.args.line.now c.loop-end.start c.loop-end.end c.if-is_blank.start (vcd_state c.loop-end.self)
            (vcd_state c.if-is_blank.self) (vcd_state w.take_piece.new.self) c.loop-end.events.items
            w.take_piece.new.events.items c.loop-end-test.true (sym c.is_blank.ensures ∙ w.if-is_blank.true)
            (ap vcd_state w.self-is) w.start-is w.in_ok-take_piece.ensures.said rest);
      }
      | else-is_blank w ↦ record {
        places = omega (arith, w.start-is, c.loop-end.invariant.places);
        said = λ new state h. c.loop-end.invariant.said new state
            (byte_adds c.args.line.now c.loop-end.start c.loop-end.end c.if-is_blank.start (vcd_state c.loop-end.self)
            (vcd_state c.if-is_blank.self) state c.loop-end.events.items c.if-is_blank.events.items new c.loop-end.invariant.places
            c.loop-end-test.true (sym c.is_blank.ensures ∙ w.if-is_blank.false) (ap vcd_state w.self-is)
            (ap (λ events. events.items) w.events-is) w.start-is h);
        refused = λ refusal rest. c.loop-end.invariant.refused refusal
            (refused_after_byte c.args.line.now c.loop-end.start c.loop-end.end c.if-is_blank.start (vcd_state c.loop-end.self)
            (vcd_state c.if-is_blank.self) refusal c.loop-end.invariant.places c.loop-end-test.true
            (sym c.is_blank.ensures ∙ w.if-is_blank.false) (ap vcd_state w.self-is) w.start-is rest);
        memory = λ rest. c.loop-end.invariant.memory
            (event_after_byte c.args.line.now c.loop-end.start c.loop-end.end c.if-is_blank.start (vcd_state c.loop-end.self)
            (vcd_state c.if-is_blank.self) c.loop-end.invariant.places c.loop-end-test.true
            (sym c.is_blank.ensures ∙ w.if-is_blank.false) (ap vcd_state w.self-is) w.start-is rest);
      }
    ]

pub returns-in_err-take_piece-clause-refused : goal.returns-in_err-take_piece-clause-refused
returns-in_err-take_piece-clause-refused c =
    let refusal = c.in_err-take_piece.field-0.0 in
    let refused : IsRefusedBy (all_say word_says (vcd_state c.args.self.now) (words_of c.args.line.now)) refusal =
    λ other. c.loop-end.invariant.refused refusal
    (blank_refused c.args.line.now c.loop-end.start c.loop-end.end (vcd_state c.loop-end.self) refusal c.loop-end-test.true
    (sym c.is_blank.ensures ∙ c.if-is_blank.true) (c.in_err-take_piece.ensures.refused other)) in
    search rules

pub returns-in_err-take_piece-clause-memory : goal.returns-in_err-take_piece-clause-memory
returns-in_err-take_piece-clause-memory c =
    let fault : c.from_residual.result ≡ Err c.in_err-take_piece.field-0.0 = search rules in
    rw fault
    (λ is. c.loop-end.invariant.memory
    (blank_event c.args.line.now c.loop-end.start c.loop-end.end (vcd_state c.loop-end.self) c.loop-end-test.true
    (sym c.is_blank.ensures ∙ c.if-is_blank.true) (c.in_err-take_piece.ensures.memory is)))

pub returns-clause-refused : goal.returns-clause-refused
returns-clause-refused c =
    let line : List ℕ = c.args.line.now in
    let all : c.loop-end.end ≡ length line = omega (arith, c.loop-end-test.false, c.loop-end.auto.end-end) in
    let last = last-word line c.loop-end.start c.loop-end.end all in
    IfErr-weaker c.take_piece-2.result _ _
    (λ refusal refused other. c.loop-end.invariant.refused refusal
    (ap (all_say word_says (vcd_state c.loop-end.self)) last ∙ refused other))
    c.take_piece-2.ensures.refused

pub returns-clause-memory : goal.returns-clause-memory
returns-clause-memory c =
    let line : List ℕ = c.args.line.now in
    let all : c.loop-end.end ≡ length line = omega (arith, c.loop-end-test.false, c.loop-end.auto.end-end) in
    let last = last-word line c.loop-end.start c.loop-end.end all in
    IfErr-weaker c.take_piece-2.result _ _
    (λ refusal memory is. c.loop-end.invariant.memory
    (subst (SayAnEvent (vcd_state c.loop-end.self)) (sym last) (memory is)))
    c.take_piece-2.ensures.memory
