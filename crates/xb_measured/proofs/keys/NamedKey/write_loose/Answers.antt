use Rattle.std.proofs.Common.{◌≡◌, ◌∙◌, ap}
use Rattle.xb_measured.specs.Figures.{start_ms}
use Rattle.xb_measured.proofs.keys.NamedKey.write_loose.Goals as goal

pub returns : goal.returns
returns c =
    let ms : c.start_ms-ms.result ≡ start_ms c.args.self.now = c.start_ms-ms.ensures ∙ ap start_ms c.self.view_is in
    rw (c.name-name.ensures, ms) at c.write.ensures.bytes
