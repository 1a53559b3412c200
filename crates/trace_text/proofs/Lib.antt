pub mod HexTextLemmas
