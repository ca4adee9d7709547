-- What a contract sees of a reader of items.
use Rattle.sr_base.specs.declared.names.Form.{Form}
use Rattle.sr_desk.specs.Reader.{Reader}
use Rattle.sr_lsr.specs.declared.reader.ItemReader.TheInside.{Inside}

-- the form of the file, and the reader of its bytes
pub record FileReader : Type 0 where
  pub form : Form
  pub reader : Reader

abbrev pub reader_of : Inside → FileReader
reader_of r = record { form = r.form; reader = r.reader }
