-- An ordinary pair reads alike by the bytes and by the ledger, and the pair of a site is the ledger's.
pub use Rattle.ledger_laws.proofs.Facade.{bytes_say_the_ledger, sites_are_the_ledger}
