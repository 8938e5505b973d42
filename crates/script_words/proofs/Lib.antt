pub mod FewSettings
pub mod HexTexts
pub mod HexWords
pub mod Keys
pub mod NumberTexts
pub mod Numbers
