-- A desk in memory as contracts see it.
use Rattle.sr_desk.specs.Outside.{Outside}
use Rattle.sr_desk.specs.Memory.{Memory}
use Rattle.sr_desk.specs.MemoryParts.{names_of, texts_of, usage_at, memory_outside, writes_file_by}
use Rattle.sr_desk.specs.Refusing.{calls_in, refuses_in}
use Rattle.sr_desk.specs.declared.memory.MemoryDesk.{MemoryDesk}

abbrev pub outside_of : MemoryDesk → Outside
outside_of d = memory_outside (names_of d.versions.items) (texts_of d.versions.items) d.out.items d.begun d.uses (record {
  reads_from = d.reads_from;
  writes_to = d.writes_to;
  last = d.last;
  finished = d.finished;
  faults = d.faults;
})

abbrev pub memory_of : MemoryDesk → Memory
memory_of d = record {
  outside = outside_of d;
  writes_file = λ n name. writes_file_by (names_of d.versions.items) (usage_at d.uses n) name;
  most = d.most;
  calls = calls_in d.refusals.calls;
  refuses = refuses_in d.refusals.refused.items;
}
