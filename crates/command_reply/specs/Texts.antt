-- The bytes of a reply's text, whether they are kept in place or were put together.
use Rattle.std.specs.Prelude.{ℕ, List}
use Rattle.command_reply.specs.declared.reply.ReplyText.{ReplyText}
use Rattle.command_reply.specs.declared.reply.ReplyText.TheVariants.{Built, Line}

abbrev pub reply_bytes_of : ReplyText → List ℕ
reply_bytes_of (Line line) = line.bytes
reply_bytes_of (Built bytes) = bytes.items
