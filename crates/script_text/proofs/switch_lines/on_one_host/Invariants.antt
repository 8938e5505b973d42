use Rattle.std.proofs.Common.{◌≡◌, drop}
use Rattle.std.specs.List.{list_all}
use Rattle.std.specs.Str.{bytes_eq}
use Rattle.script_words.specs.Ports.{host_of}
use Rattle.script_text.proofs.switch_lines.on_one_host.Given as goal

abbrev pub invariant-loop-dev : goal.invariant-loop-dev
invariant-loop-dev l =
    list_all (λ dev. bytes_eq (host_of l.before dev) l.host) l.rest ≡ list_all (λ dev. bytes_eq (host_of l.before dev) l.host) (drop l.dev-index l.rest)
