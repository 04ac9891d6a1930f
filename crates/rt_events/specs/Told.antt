-- What a line is written from.
use Rattle.rt_events.specs.declared.entry.Entry.{Entry}
use Rattle.rt_events.specs.declared.told.Told.{Told}
use Rattle.rt_events.specs.Entry.{told_path}

-- what is told, as the entry that it stands for
abbrev pub as_entry : Told → Entry
as_entry n = record {
  number = n.number;
  task = n.task;
  kind = n.kind;
  lock = n.lock;
  other = n.other;
  woken = n.woken;
  value = n.value;
  path = told_path n.kind n.path.now;
  boost = n.boost;
  reply = n.reply;
}
