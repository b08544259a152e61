mod ListLemmas
mod LaterLemmas
mod ViewLemmas
