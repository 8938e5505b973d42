use Rattle.std.proofs.Common.{◌<◌, ℕ, [], length, map, sym, subst}
use Rattle.std.proofs.lemmas.List.Elements.{All-nil}
use Rattle.std.specs.List.{All}
use Rattle.script_text.proofs.PortFacts.{all_declared}
use Rattle.script_text.proofs.switch_lines.switch_line.Goals as goal

pub on_one_host-requires : goal.on_one_host-requires
on_one_host-requires c =
    let D : ℕ → Type 0 = λ dev. dev < length c.args.before.now.plan.devs in
    subst (All D) (sym c.as_slice.ensures) ((all_declared c.args.before.now [] (map (λ word. word.now) c.args.devs.now) (All-nil D)).holds c.in_ok-ports.ports c.in_ok-ports.ensures)
