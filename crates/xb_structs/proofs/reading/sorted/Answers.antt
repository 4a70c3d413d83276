use Rattle.std.proofs.Common.{◌≡◌, ◌+◌, ◌∷◌, [], ◌++◌, ◌∙◌, ap, sym, length, map, take, arith}
use Rattle.std.proofs.lemmas.List.{map-append, take_more}
use Rattle.xb_routes.specs.Codes.{IsCodeLength}
use Rattle.xb_routes.specs.Coded.{coded}
use Rattle.xb_routes.proofs.CodeNumbers.{all-push}
use Rattle.xb_structs.proofs.Opening.{one-more}
use Rattle.xb_structs.proofs.reading.sorted.Goals as goal

pub loop-entry-preserved : goal.loop-entry-preserved
loop-entry-preserved c =
    let before = take c.loop-entry.entry-index c.args.entries.now in
    let items : map coded (take (c.loop-entry.entry-index + 1) c.args.entries.now) ≡ map coded before ++ coded c.entry-item.result ∷ [] =
    ap (map coded) (take_more c.args.entries.now c.loop-entry.entry-index c.entry-item.result c.loop-entry-test.true ∙ ap (λ entry. before ++ entry ∷ []) (sym c.entry-item.is))
    ∙ map-append coded before (c.entry-item.result ∷ []) in
    record {
      rise = c.in_ok-put_route.ensures.rise;
      same = rw items (one-more c.plain_route.result (coded c.entry-item.result) c.plain_route.ensures.code c.plain_route.ensures.digits c.plain_route.ensures.route
          c.loop-entry.routes.items c.put_route.new.routes.items (map coded before) c.loop-entry.invariant.same c.in_ok-put_route.ensures.numbered);
      lengths = rw items (all-push (λ route. IsCodeLength (length route.code)) (map coded before) (coded c.entry-item.result) c.loop-entry.invariant.lengths c.plain_route.ensures.length);
      few = omega (arith, c.in_ok-put_route.ensures.few, c.loop-entry.invariant.few);
    }
