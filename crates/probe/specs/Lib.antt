-- What a request's words stand for.
pub mod Words
