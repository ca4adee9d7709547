use Rattle.sr_scan.proofs.binary.+read_value.Given as goal

-- proposed from what the function passes where it calls itself
abbrev pub decreases-read_value : goal.decreases-read_value
decreases-read_value g l = l.most
