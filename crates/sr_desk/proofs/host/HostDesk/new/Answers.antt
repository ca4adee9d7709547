use Rattle.std.proofs.Common.{refl}
use Rattle.sr_desk.proofs.HostLemmas.{idle}
use Rattle.sr_desk.proofs.host.HostDesk.new.Goals as goal

pub returns : goal.returns
returns g c =
    rw (c.no_names.ensures, c.no_names-2.ensures, c.no_bytes.ensures, c.no_bytes-2.ensures, c.targets.ensures) record {
      begun = refl;
      slots = λ n le. idle g.R.File.Read.remaining g.R.File.Write.contents n;
      files = λ name. refl;
    }
